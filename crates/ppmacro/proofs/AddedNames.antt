-- The hide set of a token, stored as one set or the union of two, after names are added.
use Rattle.std.proofs.Common.{◌≡◌, ℕ, Bool, true, false, ◌||◌, Option, Some, None, refl, sym, ap, ◌∙◌}
use Rattle.std.specs.FinSet as set
use Rattle.std.proofs.lemmas.Cmp.{nat_list_cmp_total}
use Rattle.pptext.specs.declared.tokens.Place.{Place}
use Rattle.ppmacro.specs.Names.{Name, HideSet}
use Rattle.ppmacro.specs.HideSetPool.{HideSetPool}
use Rattle.ppmacro.specs.HideSets.{set_at, hidden_names, hide_of, hiding}
use Rattle.ppmacro.specs.Substitution.{hsadd}
use Rattle.ppmacro.specs.declared.hidden_token.Hidden.{Hidden}
use Rattle.ppmacro.proofs.NodeHideSets.{same-by}

contains-both : (s t : HideSet) (q : Name) → set.contains (set.union s t) q ≡ (set.contains s q || set.contains t q)
contains-both = set.contains-union nat_list_cmp_total

contains-three : (s t u : HideSet) (q : Name) → set.contains (set.union (set.union s t) u) q ≡ ((set.contains s q || set.contains t q) || set.contains u q)
contains-three s t u q = contains-both (set.union s t) u q ∙ (λ i. contains-both s t q i || set.contains u q)

twice : (a : Bool) → (a || a) ≡ a
twice true = refl
twice false = refl

second_within : (h a g : Bool) → (a || g) ≡ g → (h || g) ≡ ((h || a) || g)
second_within true a g e = refl
second_within false a g e = sym e

first_within : (h a g : Bool) → (h || g) ≡ g → (a || g) ≡ ((h || a) || g)
first_within true true g e = refl
first_within true false g e = sym e
first_within false a g e = refl

at-name : (s g : HideSet) → set.union s g ≡ g → (q : Name) → (set.contains s q || set.contains g q) ≡ set.contains g q
at-name s g e q = sym (contains-both s g q) ∙ ap (λ u. set.contains u q) e

pub within-itself : (s : HideSet) → set.union s s ≡ s
within-itself s = same-by _ _ (λ q. contains-both s s q ∙ twice (set.contains s q))

-- If the second set is a subset of the added names, adding them to the first set suffices.
pub second-within : (h a g : HideSet) → set.union a g ≡ g → set.union h g ≡ set.union (set.union h a) g
second-within h a g e = same-by _ _ (λ q.
    contains-both h g q
    ∙ second_within (set.contains h q) (set.contains a q) (set.contains g q) (at-name a g e q)
    ∙ sym (contains-three h a g q))

-- If the first set is a subset of the added names, adding them to the second set suffices.
pub first-within : (h a g : HideSet) → set.union h g ≡ g → set.union a g ≡ set.union (set.union h a) g
first-within h a g e = same-by _ _ (λ q.
    contains-both a g q
    ∙ first_within (set.contains h q) (set.contains a q) (set.contains g q) (at-name h g e q)
    ∙ sym (contains-three h a g q))

-- A name in the first set is in the hide set, with or without a second set.
pub has-first : (s : HideSetPool) (n : ℕ) (extra : Option ℕ) (q : Name) → set.contains (set_at s n) q ≡ true → set.contains (hidden_names s n extra) q ≡ true
has-first s n None q e = e
has-first s n (Some m) q e = contains-both (set_at s n) (set_at s m) q ∙ ap (λ b. b || set.contains (set_at s m) q) e

-- A name that isn't in the first set is in the hide set exactly if it is in the second.
pub has-second : (s : HideSetPool) (n m : ℕ) (q : Name) → set.contains (set_at s n) q ≡ false → set.contains (hidden_names s n (Some m)) q ≡ set.contains (set_at s m) q
has-second s n m q e = contains-both (set_at s n) (set_at s m) q ∙ ap (λ b. b || set.contains (set_at s m) q) e

pub hsadd-set_use : (s t : HideSetPool) (old new : Hidden) (used : Place) (n : ℕ) (extra : Option ℕ) (g : HideSet)
    → new ≡ record { token = record old.token { used = used }; hide = n; extra = extra }
    → hidden_names t n extra ≡ set.union (hide_of s old) g
    → hiding t new ≡ hsadd g used (hiding s old)
hsadd-set_use s t old new used n extra g is names = ap (hiding t) is ∙ (λ i. record { token = record old.token { used = used }; hide = names i })
