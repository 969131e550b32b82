use Rattle.std.proofs.Common.{◌≡◌, ◌∙◌, ◌+◌, sym, ap, drop, Some, slice_get, refl, arith}
use Rattle.std.proofs.lemmas.Option.{slice_get_read}
use Rattle.std.specs.Option.{option_map}
use Rattle.std.proofs.Common.{length}
use Rattle.ppmacro.specs.VaOpt.{separate, after}
use Rattle.ppmacro.specs.code.VaOptLists.{followed_by}
use Rattle.ppmacro.proofs.ChainReplacementLemmas.{drop-item}
use Rattle.ppmacro.proofs.VaOptReading.{separate-next}
use Rattle.ppmacro.proofs.va_opt.separate.Goals as goal

pub loop-index-preserved : goal.loop-index-preserved
loop-index-preserved c =
    let body = c.args.body.now in
    let i = c.loop-index.index in
    let position = c.loop-index.position in
    let next = c.in-Some.next in
    let s = c.loop-index.list in
    let token = c.index-body-index.result in
    let rest = drop (i + 1) body in
    let here : slice_get body i ≡ Some token = slice_get_read body (length body) i token refl c.loop-index-test.true c.index-body-index.is in
    let step : after position token ≡ Some next = sym c.after.ensures.is ∙ c.in-Some.is in
    record {
      depth = omega (arith, c.in-Some.ensures.depth, c.loop-index.invariant.depth);
      is = separate-next body position next s c.put.new.self token rest step (λ more. c.in_ok-put.ensures body token more here step)
          ∙ ap (λ ts. option_map (followed_by body position s) (separate position ts)) (sym (drop-item body i token c.loop-index-test.true c.index-body-index.is))
          ∙ c.loop-index.invariant.is;
    }
