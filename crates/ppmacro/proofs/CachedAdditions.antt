-- Cached sets with one more name, while nodes and names are added.
use Rattle.std.proofs.Common.{◌≡◌, ℕ, zero, suc, ◌<◌, ◌≤◌, ◌||◌, nat_eq, List, [], ◌∷◌, ◌++◌, Option, Some, None, length, length-append, arith, sym, ap, ◌∙◌, slice_set}
use Rattle.ppmacro.specs.Names.{Name}
use Rattle.ppmacro.specs.code.Nodes.{Node, member, IsPool, KeepsNodes}
use Rattle.ppmacro.specs.code.PoolInvariant.{IsAddition, AreAdditions}
use Rattle.ppmacro.specs.declared.hide_sets.additions.Addition.{Addition}
use Rattle.ppmacro.proofs.Tries.{member-keeps, length-keeps}

addition-keeps : (fewer more : ℕ) (old new : List Node) (a : Addition) → fewer ≤ more → IsPool old → KeepsNodes old new → IsAddition fewer old a → IsAddition more new a
addition-keeps fewer more old new a l p k h = record {
  base = length-keeps old new a.base k h.base;
  name = omega (arith, l, h.name);
  within = length-keeps old new a.result k h.within;
  is = λ x. member-keeps old new a.result x p k h.within ∙ h.is x ∙ (λ i. nat_eq x a.name || sym (member-keeps old new a.base x p k h.base) i);
}

-- Cached additions stay right when names and nodes are added.
pub additions-keep : (fewer more : ℕ) (old new : List Node) (slots : List (Option Addition)) → fewer ≤ more → IsPool old → KeepsNodes old new → AreAdditions fewer old slots → AreAdditions more new slots
additions-keep fewer more old new [] l p k h = record { each = tt }
additions-keep fewer more old new (None ∷ slots) l p k h =
    let rest = additions-keep fewer more old new slots l p k (record { each = h.each.1 }) in
    record { each = (tt, rest.each) }
additions-keep fewer more old new (Some a ∷ slots) l p k h =
    let rest = additions-keep fewer more old new slots l p k (record { each = h.each.1 }) in
    record { each = (addition-keeps fewer more old new a l p k h.each.0, rest.each) }

-- A new addition, after the name and the nodes that it needs were added.
pub is-addition : (count : ℕ) (old new : List Node) (a : Addition)
    → IsPool old
    → KeepsNodes old new
    → a.base < length old
    → a.name < count
    → a.result < length new
    → ((x : ℕ) → member new a.result x ≡ (nat_eq x a.name || member old a.base x))
    → IsAddition count new a
is-addition count old new a p k base name within is = record {
  base = length-keeps old new a.base k base;
  name = name;
  within = within;
  is = λ x. is x ∙ (λ i. nat_eq x a.name || sym (member-keeps old new a.base x p k base) i);
}

-- A slot gets another addition.
pub additions-set : (count : ℕ) (ns : List Node) (slots : List (Option Addition)) (i : ℕ) (a : Addition) → AreAdditions count ns slots → IsAddition count ns a → AreAdditions count ns (slice_set slots i (Some a))
additions-set count ns [] i a h k = h
additions-set count ns (s ∷ slots) zero a h k = record { each = (k, h.each.1) }
additions-set count ns (s ∷ slots) (suc i) a h k =
    let rest = additions-set count ns slots i a (record { each = h.each.1 }) k in
    record { each = (h.each.0, rest.each) }

pub names-grown : (names more after : List Name) → after ≡ names ++ more → length names ≤ length after
names-grown names more after grown = omega (arith, ap length grown, length-append names more)
