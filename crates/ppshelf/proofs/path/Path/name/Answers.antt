use Rattle.std.proofs.Common.{◌≡◌, ◌<◌, ◌++◌, ◌∷◌, [], ℕ, List, Bor, map, length, get_or, ap, refl, sym, ◌∙◌, arith}
use Rattle.std.proofs.lemmas.List.{get_or-map, length-map}
use Rattle.ppshelf.proofs.Paths.{spelled_next, spelled_front}
use Rattle.ppshelf.proofs.path.Path.name.Goals as goal
use Rattle.ppshelf.proofs.path.Path.name.Goals.{then-i-gt0+in_ok-push_slash, else-i-gt0}

pub loop-i-preserved : goal.loop-i-preserved
loop-i-preserved c =
    let bytes : Bor (List ℕ) → List ℕ = λ s. s.now in
    let nothing : Bor (List ℕ) = record { ref_ptr = (0, 0); now = [] } in
    let segments : List (Bor (List ℕ)) = c.deref-segment-items.result.now in
    let path : List (List ℕ) = map bytes segments in
    let i = c.loop-i.i in
    let before : List ℕ = c.loop-i.name.items in
    let there : i < length segments = omega arith in
    let within : i < length path = let l = length-map segments bytes in omega arith in
    let segment : (get_or segments i nothing).now ≡ get_or path i [] = sym (get_or-map bytes segments i nothing [] there) in
    let joined = c.in_ok-extend_from_slice.ensures.items in
    elim c.if-i-gt0.branch [
      | then-i-gt0+in_ok-push_slash w ↦
          let slashed : c.if-i-gt0.name.items ≡ before ++ 47 ∷ [] = rw w.name-is w.in_ok-push_slash.ensures in
          joined ∙ (ap (λ (x : List ℕ). x ++ (get_or segments i nothing).now) slashed ∙ (ap (λ (x : List ℕ). (before ++ 47 ∷ []) ++ x) segment ∙ sym (spelled_next path i within before c.loop-i.invariant w.if-i-gt0.true)))
      | else-i-gt0 w ↦
          let same : c.if-i-gt0.name.items ≡ before = rw w.name-is refl in
          joined ∙ (ap (λ (x : List ℕ). x ++ (get_or segments i nothing).now) same ∙ (ap (λ (x : List ℕ). before ++ x) segment ∙ sym (spelled_front path i within before c.loop-i.invariant (omega arith))))
    ]
