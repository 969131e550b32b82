use Rattle.std.proofs.Common.{◌≡◌, ◌++◌, ◌∷◌, drop, true}
use Rattle.ppmacro.specs.Substitution.{spelled_from}
use Rattle.ppmacro.specs.Substituting.{tokens_of}
use Rattle.ppmacro.proofs.substituting.stringizing.string_text.Given as goal

abbrev pub invariant-loop-hidden : goal.invariant-loop-hidden
invariant-loop-hidden l = l.text.items ++ spelled_from l.first (tokens_of (drop l.hidden-index l.argument)) ≡ 34 ∷ spelled_from true (tokens_of l.argument)
