-- The word for how a row and a column lie. Assumes nothing.
use Rattle.std.specs.Prelude.{ℕ, List, codes}
use Rattle.logs.specs.declared.pairing.Pairing.{Pairing}
use Rattle.logs.specs.declared.pairing.Pairing.TheVariants.{Touch, Apart, Open}

abbrev pub pairing_text : Pairing → List ℕ
pairing_text Touch = codes "touch"
pairing_text Apart = codes "apart"
pairing_text Open = codes "open"
