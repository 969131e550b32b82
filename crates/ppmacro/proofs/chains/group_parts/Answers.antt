use Rattle.std.proofs.Common.{◌∙◌, ◌∷◌, [], map, sym, ap, append-nil}
use Rattle.std.proofs.lemmas.List.{map-id}
use Rattle.std.proofs.lemmas.Iterator.Adapters.{YieldsList-from_vec}
use Rattle.std.proofs.lemmas.Iterator.Consumers.{YieldsList-end}
use Rattle.ppmacro.specs.Chains.{group_parts}
use Rattle.ppmacro.specs.code.KeptChains.{chains_at, part_at}
use Rattle.ppmacro.proofs.ChainLemmas.{append_parts-end}
use Rattle.ppmacro.proofs.VaOptParts.{parts-grouped}
use Rattle.ppmacro.proofs.chains.group_parts.Goals as goal

pub loop-part-preserved : goal.loop-part-preserved
loop-part-preserved c = λ body ps.
    parts-grouped body c.loop-part.joined c.in_ok-joined.joined c.loop-part.chains.items c.put_part.new.chains.items c.loop-part.yielded c.in-Some.part ps
    (c.in_ok-joined.ensures body ps)
    (c.loop-part.invariant body (part_at body c.in-Some.part ∷ ps))

pub returns : goal.returns
returns c = λ body.
    let gives = c.into_iter-part-iterator.ensures.into_iter_gives in
    let yields = YieldsList-from_vec {s = c.into_iter-part-iterator.result} c.args.parts.items gives.0 (gives.1 ∙ c.args.parts.ok.0) in
    let all = (YieldsList-end yields c.loop-part.yielded c.loop-part.part-iterator c.loop-part.yielded_by c.next.result c.next.new.self c.in-None.is c.next.ensures.steps).0 in
    sym (append_parts-end c.loop-part.joined (chains_at body c.loop-part.chains.items))
    ∙ c.loop-part.invariant body []
    ∙ ap group_parts (append-nil (map (part_at body) c.loop-part.yielded) ∙ ap (map (part_at body)) (sym (map-id c.loop-part.yielded) ∙ all))
