use Rattle.std.proofs.Common.{◌≡◌, drop, true}
use Rattle.ppmacro.specs.Define.{misplaces_paste}
use Rattle.ppmacro.specs.code.VaOptLists.{tokens_at, misplaces_paste_after}
use Rattle.ppmacro.proofs.defining.body_checks.misplaces_paste_among.Given as goal

abbrev pub invariant-loop-index : goal.invariant-loop-index
invariant-loop-index l = misplaces_paste_after l.last l.bare (tokens_at l.body (drop l.index-index l.indices)) ≡ misplaces_paste true (tokens_at l.body l.indices)
