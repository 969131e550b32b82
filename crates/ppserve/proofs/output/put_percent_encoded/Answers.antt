use Rattle.std.proofs.Common.{◌≡◌, ℕ, List, [], ◌∷◌, ◌++◌, take, drop, refl, sym, ap, ◌∙◌, take-append-drop, append_assoc, append-nil, length, arith, rules}
use Rattle.std.proofs.lemmas.Grind.{flat_map-append}
use Rattle.ppserve.specs.Output.{percent_encoded, percent_encoded_byte}
use Rattle.ppserve.proofs.BufferedPrinting.{puts_as, puts_none, puts_then}
use Rattle.ppserve.proofs.output.put_percent_encoded.Goals as goal

-- If percent-encoding doesn't change the prefix, only the rest has to be encoded.
as_is_prefix : (rest run others : List ℕ) (n : ℕ) → run ≡ take n rest → others ≡ drop n rest → percent_encoded (take n rest) ≡ take n rest → percent_encoded rest ≡ run ++ percent_encoded others
as_is_prefix rest run others n prefix back plain =
    ap percent_encoded (sym (take-append-drop n rest)) ∙ (flat_map-append percent_encoded_byte (take n rest) (drop n rest) ∙ rw (prefix, back, plain) refl)

none_left : (bytes : List ℕ) → length bytes ≡ 0 → bytes ≡ []
none_left [] e = refl
none_left (b ∷ bs) e = absurd (omega (arith, e))

pub loop-rest-init : goal.loop-rest-init
loop-rest-init g c = record { done = []; whole = refl; out = puts_none }

pub returns-in_default : goal.returns-in_default
returns-in_default g c =
    let rest = as_is_prefix c.loop-rest.rest.now c.split_at.result.0.now c.split_at.result.1.now c.as_is_len.result c.split_at.ensures.front c.split_at.ensures.back c.as_is_len.ensures.as_is in
    let none : c.split_at.result.1.now ≡ [] = none_left c.split_at.result.1.now c.in_default.ensures.cases in
    puts_as (rw (← c.loop-rest.invariant.whole, rest, none, append-nil) refl) (puts_then c.loop-rest.invariant.out c.put.ensures)

pub loop-rest-preserved : goal.loop-rest-preserved
loop-rest-preserved g c =
    let rest = as_is_prefix c.loop-rest.rest.now c.split_at.result.0.now c.split_at.result.1.now c.as_is_len.result c.split_at.ensures.front c.split_at.ensures.back c.as_is_len.ensures.as_is in
    let first : c.split_at.result.1.now ≡ c.in-Some.field-0-0.now ∷ c.in-Some.more.now = search rules in
    let done = c.loop-rest.invariant.done in
    let run = c.split_at.result.0.now in
    let one = percent_encoded_byte c.in-Some.field-0-0.now in
    record {
      done = done ++ run ++ one;
      whole = rw (← c.loop-rest.invariant.whole, rest, first) (append_assoc (done ++ run) one _ ∙ append_assoc done run _);
      out = puts_then (puts_then c.loop-rest.invariant.out c.put.ensures) c.put_percent_encoded_byte.ensures;
    }
