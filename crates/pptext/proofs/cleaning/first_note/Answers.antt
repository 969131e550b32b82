use Rattle.std.proofs.Common.{◌≡◌, ℕ, List, Bool, ◌+◌, ◌<◌, drop, length, subst, sym, ap, ◌∙◌, arith, length-drop}
use Rattle.std.proofs.lemmas.List.{take_rest}
use Rattle.pptext.specs.declared.sources.Profile.{Profile}
use Rattle.pptext.specs.code.LineNotes.{OwnPrefix, PlainRun}
use Rattle.pptext.specs.code.Steps.{Code, IsChanged, StopsAt, step_of}
use Rattle.pptext.proofs.LineNoteLemmas.{long_code, own_code, own_none, own_plain, removed_bytes, stretch_all}
use Rattle.pptext.proofs.cleaning.first_note.Goals as goal

pub loop-ahead-init : goal.loop-ahead-init
loop-ahead-init c = own_none c.args.profile c.args.supplied c.args.bytes.now

-- The bytes before the next special byte are characters of their own.
up_to : (profile : Profile) (s : Bool) (bytes : List ℕ) (start ahead : ℕ) → OwnPrefix profile s bytes start → StopsAt (drop start bytes) ahead → (start + ahead < length bytes) × OwnPrefix profile s bytes (start + ahead)
up_to profile s bytes start ahead own stop =
    let l = length-drop start bytes in
    let in_bounds = stop.0 in
    (omega arith, own_plain profile s bytes start ahead own stop.1)

pub loop-ahead-preserved : goal.loop-ahead-preserved
loop-ahead-preserved c =
    let bytes = c.args.bytes.now in
    let at = c.loop-ahead.start + c.in-Some.ahead in
    let here = up_to c.args.profile c.args.supplied bytes c.loop-ahead.start c.in-Some.ahead c.loop-ahead.invariant (simp take_rest at c.in-Some.ensures) in
    let code = c.in-Code.field-0 in
    let is : step_of c.args.profile c.args.supplied (drop at bytes) ≡ Code code 1 = sym (simp take_rest at c.in-Code.ensures) ∙ ap (λ n. Code code n) c.if-len-ne1.false in
    own_code c.args.profile c.args.supplied bytes at code here.1 here.0 is

-- A plain run that ends at a line note.
break_at : (profile : Profile) (s : Bool) (bytes : List ℕ) (at : ℕ) → (at < length bytes) × OwnPrefix profile s bytes at → IsChanged profile s (drop at bytes) → (at < length bytes) × PlainRun profile s bytes at
break_at profile s bytes at here changed = (here.0, record { prefix = here.1; stops = λ lt. changed })

pub returns-then-len-ne1 : goal.returns-then-len-ne1
returns-then-len-ne1 c =
    let bytes = c.args.bytes.now in
    let at = c.loop-ahead.start + c.in-Some.ahead in
    let here = up_to c.args.profile c.args.supplied bytes c.loop-ahead.start c.in-Some.ahead c.loop-ahead.invariant (simp take_rest at c.in-Some.ensures) in
    break_at c.args.profile c.args.supplied bytes at here (long_code c.args.profile c.args.supplied (drop at bytes) c.in-Code.field-0 c.in-Code.len (sym (simp take_rest at c.in-Code.ensures)) c.if-len-ne1.true)

pub returns-in-Removed : goal.returns-in-Removed
returns-in-Removed c =
    let bytes = c.args.bytes.now in
    let at = c.loop-ahead.start + c.in-Some.ahead in
    let here = up_to c.args.profile c.args.supplied bytes c.loop-ahead.start c.in-Some.ahead c.loop-ahead.invariant (simp take_rest at c.in-Some.ensures) in
    break_at c.args.profile c.args.supplied bytes at here (removed_bytes c.args.profile c.args.supplied (drop at bytes) c.in-Removed.field-0 (sym (simp take_rest at c.in-Removed.ensures)))

pub returns : goal.returns
returns c =
    let bytes = c.args.bytes.now in
    let start = c.loop-ahead.start in
    let rest = length (drop start bytes) in
    let l = length-drop start bytes in
    let fits = c.loop-ahead.invariant.fits in
    let own = own_plain c.args.profile c.args.supplied bytes start rest c.loop-ahead.invariant (simp take_rest at c.in_default.ensures) in
    let end : start + rest ≡ length bytes = omega arith in
    stretch_all c.args.profile c.args.supplied bytes (subst (OwnPrefix c.args.profile c.args.supplied bytes) end own)
