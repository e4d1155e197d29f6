-- The number of a refusal. Assumes nothing.
use Rattle.std.specs.Prelude.{ℕ}
use Rattle.propagation.specs.declared.refusal.Refusal.{Refusal}
use Rattle.propagation.specs.declared.refusal.Refusal.TheVariants.{WrongMemory}

abbrev pub numbered : Refusal → ℕ
numbered WrongMemory = 12
