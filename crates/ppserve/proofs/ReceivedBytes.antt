-- The outcome of bytes that were read is the outcome of all known bytes of the reader.
use Rattle.std.proofs.Common.{◌≡◌, ℕ, ◌<◌, ◌≤◌, List, [], ◌++◌, length, Bool, true, false, cond, ltb, Option, None, Some, sym, ap, ◌∙◌, arith, append-nil, length-append, refl}
use Rattle.std.proofs.lemmas.Bool.{ltb-true, ltb-false, lt-ltb}
use Rattle.ppserve.specs.Listing.{Verdict, refused, max_input, verdict_of}
use Rattle.ppserve.specs.Serving.{Received}

refused_where : (b : Bool) (o : Verdict) → b ≡ true → cond b (refused 1) o ≡ refused 1
refused_where true o e = refl
refused_where false o e = absurd (cc)

pub too_many : (inline : Bool) (bytes : List ℕ) → max_input < length bytes → verdict_of inline bytes ≡ refused 1
too_many inline bytes h = refused_where (ltb max_input (length bytes)) _ (lt-ltb max_input (length bytes) h)

decided_by : (test : Bool) (inline : Bool) (known bytes rest : List ℕ) → ltb max_input (length bytes) ≡ test → known ≡ bytes ++ rest → (length bytes ≤ max_input → rest ≡ [])
    → verdict_of inline bytes ≡ verdict_of inline known
decided_by true inline known bytes rest e consumed whole =
    let many : max_input < length bytes = ltb-true max_input (length bytes) e in
    let more : max_input < length known = omega (arith, many, ap length consumed, length-append bytes rest) in
    too_many inline bytes many ∙ sym (too_many inline known more)
decided_by false inline known bytes rest e consumed whole =
    let none : rest ≡ [] = whole (ltb-false max_input (length bytes) e) in
    let all : known ≡ bytes = consumed ∙ (ap (λ xs. bytes ++ xs) none ∙ append-nil bytes) in
    ap (verdict_of inline) (sym all)

pub decided : (inline : Bool) (known bytes : List ℕ) (after : Option (List ℕ)) → Received (record { before = Some known; after = after }) bytes → verdict_of inline bytes ≡ verdict_of inline known
decided inline known bytes None r = absurd r.consumed
decided inline known bytes (Some rest) r = decided_by (ltb max_input (length bytes)) inline known bytes rest refl r.consumed r.whole
