-- Tokens with an empty hide set: how the number of a set tells whether it is empty.
use Rattle.std.proofs.Common.{◌≡◌, ℕ, Bool, true, false, ◌||◌, Option, Some, None, refl, sym, ap, ◌∙◌, eq-eqb, ne_eqb}
use Rattle.std.specs.FinSet as set
use Rattle.std.specs.Ordering.{nat_cmp}
use Rattle.std.specs.Cmp.Lexicographic.{slice_cmp}
use Rattle.std.proofs.lemmas.Cmp.{nat_list_cmp_total}
use Rattle.ppmacro.specs.Names.{HideSet}
use Rattle.ppmacro.specs.HideSetPool.{HideSetPool}
use Rattle.ppmacro.specs.HideSets.{set_at, IsKnown, hidden_names, hide_of, hiding, HasSets}
use Rattle.ppmacro.specs.declared.hidden_token.Hidden.{Hidden}
use Rattle.ppmacro.proofs.NodeHideSets.{same-by, union-none}
use Rattle.ppexpand.specs.OpenInvocations.{hides_nothing}

empty_is : (s : HideSet) → s ≡ set.empty → (set.len s ≡ 0)
empty_is s h = ap set.len h ∙ set.len-empty (slice_cmp nat_cmp)

either_false : (a b : Bool) → (a || b) ≡ false → a ≡ false
either_false true b h = h
either_false false b h = refl

other_false : (a b : Bool) → (a || b) ≡ false → b ≡ false
other_false true b h = absurd (cc h)
other_false false b h = h

-- the parts of an empty union are empty
left_empty : (s t : HideSet) → set.union s t ≡ set.empty → s ≡ set.empty
left_empty s t h = same-by s set.empty (λ q.
    either_false (set.contains s q) (set.contains t q) (sym (set.contains-union nat_list_cmp_total s t q) ∙ ap (λ u. set.contains u q) h ∙ set.contains-empty (slice_cmp nat_cmp) q)
    ∙ sym (set.contains-empty (slice_cmp nat_cmp) q))

right_empty : (s t : HideSet) → set.union s t ≡ set.empty → t ≡ set.empty
right_empty s t h = same-by t set.empty (λ q.
    other_false (set.contains s q) (set.contains t q) (sym (set.contains-union nat_list_cmp_total s t q) ∙ ap (λ u. set.contains u q) h ∙ set.contains-empty (slice_cmp nat_cmp) q)
    ∙ sym (set.contains-empty (slice_cmp nat_cmp) q))

first_empty : (sets : HideSetPool) (n : ℕ) (extra : Option ℕ) → hidden_names sets n extra ≡ set.empty → set_at sets n ≡ set.empty
first_empty sets n None h = h
first_empty sets n (Some m) h = left_empty (set_at sets n) (set_at sets m) h

-- numbers of sets that are equal only if the sets are
abbrev pub AreUnique : HideSetPool → Type 0
AreUnique sets = (m n : ℕ) → IsKnown sets m → IsKnown sets n → set_at sets m ≡ set_at sets n → m ≡ n

module _ (sets : HideSetPool) (h : Hidden) (empty : ℕ) (is : set_at sets empty ≡ set.empty) (known : IsKnown sets empty) (unique : AreUnique sets) (has : HasSets sets h) where
  pub another_set : (h.hide ≡ empty → ⊥) → false ≡ hides_nothing (hiding sets h)
  another_set other = sym (ne_eqb (set.len (hide_of sets h)) 0 (λ none.
      other (unique h.hide empty has.hide known (first_empty sets h.hide h.extra (set.empty_of_len (hide_of sets h) none) ∙ sym is))))

  pub one_set : h.hide ≡ empty → h.extra ≡ None → true ≡ hides_nothing (hiding sets h)
  one_set same none = sym (eq-eqb (set.len (hide_of sets h)) 0 (empty_is (hide_of sets h) (ap (hidden_names sets h.hide) none ∙ ap (set_at sets) same ∙ is)))

  pub two_empty : (m : ℕ) → h.hide ≡ empty → h.extra ≡ Some m → m ≡ empty → true ≡ hides_nothing (hiding sets h)
  two_empty m same two also = sym (eq-eqb (set.len (hide_of sets h)) 0 (empty_is (hide_of sets h)
      (ap (hidden_names sets h.hide) two ∙ (λ i. set.union (set_at sets (same i)) (set_at sets (also i))) ∙ (λ i. set.union (is i) (is i)) ∙ union-none set.empty)))

  pub two_sets : (m : ℕ) → IsKnown sets m → h.hide ≡ empty → h.extra ≡ Some m → (m ≡ empty → ⊥) → false ≡ hides_nothing (hiding sets h)
  two_sets m m_known same two other = sym (ne_eqb (set.len (hide_of sets h)) 0 (λ none.
      other (unique m empty m_known known (right_empty (set_at sets h.hide) (set_at sets m) (sym (ap (hidden_names sets h.hide) two) ∙ set.empty_of_len (hide_of sets h) none) ∙ sym is))))
