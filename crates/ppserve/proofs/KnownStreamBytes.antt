-- Known bytes of readers and writers across several reads and writes.
use Rattle.std.proofs.Math.Seq.{take-add}
use Rattle.std.proofs.lemmas.List.{take_all}
use Rattle.std.proofs.Common.{◌≡◌, ℕ, ◌+◌, ◌-◌, ◌≤◌, length, length-drop, arith, List, [], ◌++◌, take, drop, refl, sym, subst, append_assoc, Option, Some, None}
use Rattle.std.specs.Io.KnownBytes.{Appends}

pub appends_then : (a b c : Option (List ℕ)) (xs ys : List ℕ) → Appends a b xs → Appends b c ys → Appends a c (xs ++ ys)
appends_then None b c xs ys p q = tt
appends_then (Some a) None c xs ys p q = absurd p
appends_then (Some a) (Some b) None xs ys p q = absurd q
appends_then (Some a) (Some b) (Some c) xs ys p q = rw (q, p, append_assoc) refl

-- Writing `n` more of the bytes from `done` on extends the written prefix to `done + n` bytes.
pub wrote_more : (bytes : List ℕ) (done n : ℕ) (a b c : Option (List ℕ)) → done ≤ length bytes → n ≤ length (take (length bytes - done) (drop done bytes))
    → Appends a b (take done bytes) → Appends b c (take n (take (length bytes - done) (drop done bytes)))
    → (done + n ≤ length bytes) × Appends a c (take (done + n) bytes)
wrote_more bytes done n a b c h k p q =
    let rest : take (length bytes - done) (drop done bytes) ≡ drop done bytes = take_all _ _ (omega (arith, length-drop {A = ℕ})) in
    let fits : n ≤ length (drop done bytes) = rw rest at k in
    let more = appends_then a b c _ _ p q in
    let whole : take done bytes ++ take n (take (length bytes - done) (drop done bytes)) ≡ take (done + n) bytes = rw rest (sym (take-add done n bytes)) in
    (omega (arith, length-drop {A = ℕ}), rw whole at more)

pub appends_as : (a b : Option (List ℕ)) (xs ys : List ℕ) → xs ≡ ys → Appends a b xs → Appends a b ys
appends_as a b xs ys e h = let P : List ℕ → Type 0 = λ zs. Appends a b zs in subst P e h

-- If a text is appended to a writer that had no bytes, its bytes are the text.
pub written_alone : (a b : Option (List ℕ)) (bytes text : List ℕ) → a ≡ Some [] → b ≡ Some bytes → Appends a b text → bytes ≡ text
written_alone a b bytes text none some appends = rw (none, some) at appends
