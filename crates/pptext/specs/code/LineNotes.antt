-- The table of line notes: where phases 1 and 2 (5.1.1.2) remove or replace bytes of a file. Only the contracts of private functions, and the view
-- of a type's private fields, cite this.
use Rattle.std.specs.Prelude.{◌≡◌, ◌<◌, ◌≤◌, ℕ, List, [], ◌∷◌, Bool, length, drop, slice_index}
use Rattle.pptext.specs.declared.sources.Profile.{Profile}
use Rattle.pptext.specs.code.Steps.{CharStep, Code, Removed, IsChanged, step_of}

-- each of the first n bytes is a character of its own
pub record OwnPrefix (profile : Profile) (supplied : Bool) (bs : List ℕ) (n : ℕ) : Type 0 where
  pub fits : n ≤ length bs
  pub own : (k : ℕ) → k < n → step_of profile supplied (drop k bs) ≡ Code (slice_index bs k) 1

-- each of the first n bytes is a character of its own, and after them the bytes end or a line note begins
pub record PlainRun (profile : Profile) (supplied : Bool) (bs : List ℕ) (n : ℕ) : Type 0 where
  pub prefix : OwnPrefix profile supplied bs n
  pub stops : n < length bs → IsChanged profile supplied (drop n bs)

-- the number of bytes that the step reads
abbrev pub step_len : CharStep → ℕ
step_len (Code code n) = n
step_len (Removed n) = n

-- the bytes after the line note that is here
abbrev pub after_note : Profile → Bool → List ℕ → List ℕ
after_note profile supplied bs = drop (step_len (step_of profile supplied bs)) bs

-- An entry for each line note: the number of bytes between it and the line note before, or the start.
abbrev pub IsTable : Profile → Bool → List ℕ → List ℕ → Type 0
IsTable profile supplied bs [] = PlainRun profile supplied bs (length bs)
IsTable profile supplied bs (n ∷ ns) = (n < length bs) × PlainRun profile supplied bs n × IsTable profile supplied (after_note profile supplied (drop n bs)) ns
