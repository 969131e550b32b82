use Rattle.std.proofs.Common.{◌≡◌, ◌∙◌, sym, ap, ℕ, Some, List, slice_get}
use Rattle.std.proofs.lemmas.Result.{on_ok_weaker}
use Rattle.pptext.specs.declared.tokens.Token.{Token}
use Rattle.ppmacro.specs.VaOpt.{Separated, after, put}
use Rattle.ppmacro.specs.code.VaOptLists.{followed_by}
use Rattle.ppmacro.specs.declared.va_opt.Position.TheVariants.{Outside, Inside}
use Rattle.ppmacro.proofs.VaOptReading.{put-outside, stays-inside, put-inside}
use Rattle.ppmacro.proofs.va_opt.SeparatedList.put.Goals as goal

pub returns-in_ok-push-in-Outside : goal.returns-in_ok-push-in-Outside
returns-in_ok-push-in-Outside c = λ body t rest here step.
    let s = c.args.self.now in
    let p = c.in-Outside.is in
    put-outside body s c.push.new.self c.args.index t c.args.next rest c.in_ok-push-in-Outside.ensures.items here (ap (λ q. after q t) (sym p) ∙ step)
    ∙ (λ i. followed_by body (sym p i) s (put t (sym p i) c.args.next rest))

pub returns-in-Outside-next : goal.returns-in-Outside-next
returns-in-Outside-next c =
    let s = c.args.self.now in
    let p = c.in-Inside.is in
    let q = c.in-Outside-next.is in
    let new = c.end_content.new.self in
    let depth = c.in-Inside.field-0 in
    let goes_on : ((body : List Token) (t : Token) (rest : Separated) (d : ℕ) → followed_by body Outside new rest ≡ followed_by body (Inside d) s (put t (Inside d) Outside rest))
    → (body : List Token) (t : Token) (rest : Separated) → slice_get body c.args.index ≡ Some t → after c.args.position t ≡ Some c.args.next
    → followed_by body c.args.next new rest ≡ followed_by body c.args.position s (put t c.args.position c.args.next rest) =
    λ same body t rest here step.
    ap (λ n. followed_by body n new rest) q
    ∙ same body t rest depth
    ∙ (λ i. followed_by body (sym p i) s (put t (sym p i) (sym q i) rest)) in
    on_ok_weaker _ goes_on c.end_content.ensures

pub returns-in_ok-push-in_default : goal.returns-in_ok-push-in_default
returns-in_ok-push-in_default c = λ body t rest here step.
    let s = c.args.self.now in
    let p = c.in-Inside.is in
    let depth = c.in-Inside.field-0 in
    let stays = stays-inside depth t c.args.next (ap (λ q. after q t) (sym p) ∙ step) c.in_default.not-Outside in
    let n = stays.1 in
    ap (λ q. followed_by body q (record { outside = s.outside; contents = s.contents; current = c.push-in_default.new.self }) rest) n
    ∙ put-inside body s c.push-in_default.new.self c.args.index depth stays.0 t rest c.in_ok-push-in_default.ensures.items here
    ∙ (λ i. followed_by body (sym p i) s (put t (sym p i) (sym n i) rest))
