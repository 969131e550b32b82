use Rattle.std.proofs.Common.{◌≡◌, drop, map, true}
use Rattle.std.specs.List.{list_any}
use Rattle.ppmacro.specs.Define.{misplaces_paste}
use Rattle.ppmacro.specs.code.VaOptLists.{tokens_at}
use Rattle.ppmacro.proofs.defining.body_checks.misplaces_paste_inside.Given as goal

abbrev pub invariant-loop-content : goal.invariant-loop-content
invariant-loop-content l =
    list_any (misplaces_paste true) (map (λ c. tokens_at l.body c.items) (drop l.content-index l.contents)) ≡ list_any (misplaces_paste true) (map (λ c. tokens_at l.body c.items) l.contents)
