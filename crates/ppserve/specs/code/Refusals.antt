-- Why a step of reading a list fails. Only contracts of private functions use this.
use Rattle.std.specs.Prelude.{◌≡◌, ◌⊎◌, ℕ}
use Rattle.ppserve.specs.declared.list.ListFault.{ListFault}
use Rattle.ppserve.specs.declared.list.ListFault.TheVariants.{Bad, Memory}

-- an allocation failed, or refusal n for the reason P
abbrev pub RefusedFor : ℕ → Type 0 → ListFault → Type 0
RefusedFor n P e = (e ≡ Memory) ⊎ ((e ≡ Bad n) × P)
