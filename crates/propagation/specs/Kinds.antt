-- What the labels of the code mean. Assumes nothing.
use Rattle.walks.specs.Rounds.{Labels}
use Rattle.walks.specs.Reach.{reach_labels}
use Rattle.walks.specs.Places.{clamped_labels}
use Rattle.propagation.specs.declared.reach.Reach.{Reach}
use Rattle.propagation.specs.declared.place.Place.{Place}

-- labels in a type H that holds others: `out` takes one out, and `into` puts one in
abbrev pub held : {L H : Type 0} → (H → L) → (L → H) → Labels L → Labels H
held out into ops =
    record { join = λ x y. into (ops.join (out x) (out y)); none = into ops.none; carry = λ g x. into (ops.carry g (out x)) }

-- reached or not: joined by 'or', and carried as it is
abbrev pub reach_meaning : Labels Reach
reach_meaning = held (λ r. r.yes) (λ b. record { yes = b }) reach_labels

-- none or a place from -30,000 to 30,000: joined to the greater one, and carried by adding the gap, up to an end
abbrev pub place_meaning : Labels Place
place_meaning = held (λ p. p.at) (λ o. record { at = o }) (clamped_labels 30000)
