use Rattle.std.proofs.Common.{rules, ◌≡◌, ◌∙◌, ◌<◌, ◌+◌, refl, sym, ap, subst, [], ◌∷◌, map, take, drop, suc, length, get_or, arith}
use Rattle.std.proofs.lemmas.List.{take_more_set, drop-set-lt, drop_more}
use Rattle.ppmacro.specs.HideSets.{set_at, hidings, AllKnown}
use Rattle.ppmacro.specs.Substitution.{hsadd}
use Rattle.ppmacro.proofs.PoolGrowthLemmas.{keeps-all, known-keeps, known-append, keeps-after, known-set}
use Rattle.ppmacro.proofs.ChainReplacementLemmas.{next-item, known-drop, hsadd-more, within-keeps}
use Rattle.ppmacro.proofs.substituting.hsadd.hsadd_all.Goals as goal

pub loop-hidden-init : goal.loop-hidden-init
loop-hidden-init c =
    let s = c.args.sets.now in
    record {
      same = refl;
      rest = c.deref_mut-hidden-items.ensures.value;
      done_known = record { each = tt };
      within = c.requires.within;
      keeps = keeps-all s;
    }

pub loop-hidden-preserved : goal.loop-hidden-preserved
loop-hidden-preserved c =
    let s = c.args.sets.now in
    let t = c.loop-hidden.sets in
    let u = c.hsadd_one.new.sets in
    let i = c.loop-hidden.hidden-index in
    let now = c.loop-hidden.hidden-items in
    let start = c.args.tokens.now.items in
    let item = get_or now i c.hidden-item.result in
    let one = c.hsadd_one.new.hidden in
    let within : i < length now = search rules in
    let after = next-item start i item (drop (i + 1) now) (sym c.loop-hidden.invariant.rest ∙ drop_more now i c.hidden-item.result within) in
    let more : i + 1 ≡ suc i = omega arith in
    let known : AllKnown s (item ∷ drop (i + 1) now) = subst (AllKnown s) (sym c.loop-hidden.invariant.rest ∙ drop_more now i c.hidden-item.result within) (known-drop s i start c.requires.tokens) in
    let made = take_more_set now i one within in
    record {
      same = ap (hidings u) made
          ∙ hsadd-more s t u c.args.added c.args.used (take i now) (take i start) item one c.loop-hidden.invariant.keeps c.in_ok-hsadd_one.ensures.keeps
          c.requires.added c.loop-hidden.invariant.done_known known.each.0 c.in_ok-hsadd_one.ensures.is c.loop-hidden.invariant.same
          ∙ ap (λ hs. map (hsadd (set_at s c.args.added) c.args.used) (hidings s hs)) (sym ((λ j. take (more j) start) ∙ after.0));
      rest = drop-set-lt (i + 1) now i one (omega arith) ∙ sym ((λ j. drop (more j) start) ∙ after.1);
      done_known = subst (AllKnown u) (sym made) (known-append (take i now) (one ∷ []) (known-keeps (take i now) c.in_ok-hsadd_one.ensures.keeps c.loop-hidden.invariant.done_known) (record { each = (c.in_ok-hsadd_one.ensures.known, tt) }));
      within = within-keeps c.args.added c.args.base c.in_ok-hsadd_one.ensures.keeps (known-set c.args.added c.loop-hidden.invariant.keeps c.requires.added)
          (known-set c.args.base c.loop-hidden.invariant.keeps c.requires.base) c.loop-hidden.invariant.within;
      keeps = keeps-after c.loop-hidden.invariant.keeps c.in_ok-hsadd_one.ensures.keeps;
    }
