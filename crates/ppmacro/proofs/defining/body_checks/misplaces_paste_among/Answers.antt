use Rattle.std.proofs.Common.{◌≡◌, ◌∙◌, ◌+◌, ◌&&◌, true, false, drop, sym, ap, None, Some, get_or, slice_get, length, refl, Bool}
use Rattle.std.proofs.lemmas.Option.{slice_get_past, slice_get_read}
use Rattle.ppmacro.specs.code.VaOptLists.{tokens_at, misplaces_paste_after}
use Rattle.ppmacro.proofs.VaOptParts.{next-token, no-token, paste-goes-on, paste-found}
use Rattle.ppmacro.proofs.defining.body_checks.misplaces_paste_among.Goals as goal
use Rattle.ppmacro.proofs.defining.body_checks.misplaces_paste_among.Goals.{else-paste-via-then-paste+else-bare, else-paste-via-else-paste}

pub loop-index-preserved-in_default : goal.loop-index-preserved-in_default
loop-index-preserved-in_default c =
    let body = c.args.body.now in
    let is = c.args.indices.now in
    let k = c.loop-index.index-index in
    let none : slice_get body (get_or is k 0) ≡ None = slice_get_past body (get_or is k 0) c.in_default.ensures.lookup.3 in
    ap (misplaces_paste_after c.loop-index.last c.loop-index.bare) (no-token body is k c.loop-index-test.true none) ∙ c.loop-index.invariant

pub returns-then-bare : goal.returns-then-bare
returns-then-bare c =
    let body = c.args.body.now in
    let is = c.args.indices.now in
    let k = c.loop-index.index-index in
    let token = c.in-Some.token.now in
    let here : slice_get body (get_or is k 0) ≡ Some token =
    slice_get_read body (length body) (get_or is k 0) token refl c.in-Some.ensures.lookup.3.0 c.in-Some.ensures.lookup.1 in
    paste-found c.loop-index.last c.loop-index.bare token (tokens_at body (drop (k + 1) is)) (sym c.is_paste-paste.ensures ∙ c.if-paste.true) c.if-bare.true
    ∙ ap (misplaces_paste_after c.loop-index.last c.loop-index.bare) (next-token body is k token c.loop-index-test.true here)
    ∙ c.loop-index.invariant

pub loop-index-preserved : goal.loop-index-preserved
loop-index-preserved c =
    let body = c.args.body.now in
    let is = c.args.indices.now in
    let k = c.loop-index.index-index in
    let token = c.in-Some.token.now in
    let p = c.is_paste-paste.result in
    let here : slice_get body (get_or is k 0) ≡ Some token =
    slice_get_read body (length body) (get_or is k 0) token refl c.in-Some.ensures.lookup.3.0 c.in-Some.ensures.lookup.1 in
    let apart : (p && c.loop-index.bare) ≡ false = elim c.else-paste.branch [
      | else-paste-via-then-paste+else-bare w ↦ both p c.loop-index.bare w.if-bare.false
      | else-paste-via-else-paste w ↦ ap (λ b. b && c.loop-index.bare) w.if-paste.false
    ] in
    paste-goes-on p c.loop-index.last c.loop-index.bare token (tokens_at body (drop (k + 1) is)) c.is_paste-paste.ensures apart
    ∙ ap (misplaces_paste_after c.loop-index.last c.loop-index.bare) (next-token body is k token c.loop-index-test.true here)
    ∙ c.loop-index.invariant
  where
    both : (p bare : Bool) → bare ≡ false → (p && bare) ≡ false
    both true bare h = h
    both false bare h = refl
