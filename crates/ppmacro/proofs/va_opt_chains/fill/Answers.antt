use Rattle.std.proofs.Common.{◌≡◌, ◌∙◌, ◌+◌, ◌<◌, ◌++◌, ◌∷◌, [], suc, subst, map, length, drop, get_or, set, sym, ap, append-nil, arith}
use Rattle.std.proofs.lemmas.List.{map-id, drop-set-lt}
use Rattle.std.proofs.lemmas.Iterator.Adapters.{YieldsList-from_vec}
use Rattle.std.proofs.lemmas.Iterator.Consumers.{YieldsList-end}
use Rattle.ppmacro.specs.VaOptChains.{parts_for, parts_with, arguments_with}
use Rattle.ppmacro.specs.code.KeptChains.{chains_at, part_at}
use Rattle.ppmacro.specs.code.VaOptLists.{arguments_at}
use Rattle.ppmacro.proofs.ChainReplacementLemmas.{drop-item}
use Rattle.ppmacro.proofs.VaOptFilling.{Fills, fills-other, fills-missing, fills-content, nothing-left}
use Rattle.ppmacro.proofs.va_opt_chains.fill.Goals as goal

pub loop-part-preserved-then-not-is_va_opt_part : goal.loop-part-preserved-then-not-is_va_opt_part
loop-part-preserved-then-not-is_va_opt_part c =
    let body = c.args.body.now in
    let now = c.loop-part.filled in
    record {
      fills = fills-other body c.args.count c.loop-part.yielded (drop c.loop-part.next c.loop-part.contents.items) now.parts.items now.arguments.items (suc c.args.count) c.args.parts.items
          c.args.contents.items c.loop-part.invariant.fills c.in-Some.part c.push.new.self.items c.in_ok-push.ensures.items (sym c.is_va_opt_part.ensures ∙ c.if-not-is_va_opt_part.true);
      parameters = c.loop-part.invariant.parameters;
    }

pub loop-part-preserved-then-next-len : goal.loop-part-preserved-then-next-len
loop-part-preserved-then-next-len c =
    let body = c.args.body.now in
    let now = c.loop-part.filled in
    let none : drop c.loop-part.next c.loop-part.contents.items ≡ [] = nothing-left c.loop-part.contents.items c.loop-part.next (omega (arith, c.if-next-len.true, c.len-in-loop-part.ensures, c.loop-part.contents.ok)) in
    record {
      fills = fills-missing body c.args.count c.loop-part.yielded (drop c.loop-part.next c.loop-part.contents.items) now.parts.items now.arguments.items (suc c.args.count) c.args.parts.items
          c.args.contents.items c.loop-part.invariant.fills c.in-Some.part c.push-then-next-len.new.self.items c.in_ok-push-2.ensures.items none;
      parameters = c.loop-part.invariant.parameters;
    }

pub loop-part-preserved : goal.loop-part-preserved
loop-part-preserved c =
    let body = c.args.body.now in
    let now = c.loop-part.filled in
    let k = c.loop-part.next in
    let vs = c.loop-part.contents.items in
    let content = c.replace-content.result in
    let less : k < length vs = omega (arith, c.if-next-len.false, c.len-in-loop-part.ensures, c.loop-part.contents.ok) in
    let next : drop k vs ≡ content ∷ drop (k + 1) vs = drop-item vs k content less (c.replace-content.ensures.value ∙ c.index_mut.ensures.value ∙ ap (get_or vs k) (sym c.replace-content.ensures.value)) in
    let kept : drop (k + 1) (set vs k c.replace-content.new.dest) ≡ drop (k + 1) vs = drop-set-lt (k + 1) vs k c.replace-content.new.dest (omega arith) in
    let i = ap (λ n. n + length now.arguments.items) c.loop-part.invariant.parameters in
    record {
      fills = subst (λ rest. Fills body c.args.count (c.loop-part.yielded ++ c.in-Some.part ∷ []) rest c.put_content.new.self.parts.items c.put_content.new.self.arguments.items (suc c.args.count) c.args.parts.items c.args.contents.items)
          (sym kept)
          (fills-content body c.args.count c.loop-part.yielded (drop k vs) now.parts.items now.arguments.items (suc c.args.count) c.args.parts.items
          c.args.contents.items c.loop-part.invariant.fills c.in-Some.part content (drop (k + 1) vs) c.put_content.new.self.parts.items c.put_content.new.self.arguments.items next
          (c.in_ok-put_content.ensures.parts
          ∙ ap (λ n. map (part_at body) now.parts.items ++ parts_for (part_at body c.in-Some.part) n (chains_at body content.items)) i)
          c.in_ok-put_content.ensures.arguments (sym c.is_va_opt_part.ensures ∙ c.if-not-is_va_opt_part.false));
      parameters = c.put_content.ensures.parameters ∙ c.loop-part.invariant.parameters;
    }

pub returns-clause-parts : goal.returns-clause-parts
returns-clause-parts c =
    let body = c.args.body.now in
    let n = c.args.count in
    let gives = c.into_iter-part-iterator.ensures.into_iter_gives in
    let yields = YieldsList-from_vec {s = c.into_iter-part-iterator.result} c.args.parts.items gives.0 (gives.1 ∙ c.args.parts.ok.0) in
    let all = (YieldsList-end yields c.loop-part.yielded c.loop-part.part-iterator c.loop-part.yielded_by c.next.result c.next.new.self c.in-None.is c.next.ensures.steps).0 in
    sym (append-nil (map (part_at body) c.loop-part.filled.parts.items))
    ∙ c.loop-part.invariant.fills.0 []
    ∙ ap (λ ps. parts_with n (suc n) ps (arguments_at body c.args.contents.items)) (append-nil (map (part_at body) c.loop-part.yielded) ∙ ap (map (part_at body)) (sym (map-id c.loop-part.yielded) ∙ all))

pub returns-clause-arguments : goal.returns-clause-arguments
returns-clause-arguments c =
    let body = c.args.body.now in
    let n = c.args.count in
    let gives = c.into_iter-part-iterator.ensures.into_iter_gives in
    let yields = YieldsList-from_vec {s = c.into_iter-part-iterator.result} c.args.parts.items gives.0 (gives.1 ∙ c.args.parts.ok.0) in
    let all = (YieldsList-end yields c.loop-part.yielded c.loop-part.part-iterator c.loop-part.yielded_by c.next.result c.next.new.self c.in-None.is c.next.ensures.steps).0 in
    sym (append-nil (arguments_at body c.loop-part.filled.arguments.items))
    ∙ c.loop-part.invariant.fills.1 []
    ∙ ap (λ ps. arguments_with n ps (arguments_at body c.args.contents.items)) (append-nil (map (part_at body) c.loop-part.yielded) ∙ ap (map (part_at body)) (sym (map-id c.loop-part.yielded) ∙ all))
