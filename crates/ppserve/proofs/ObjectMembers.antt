-- The members of a JSON object.
use Rattle.std.proofs.Common.{◌≡◌, ℕ, ◌||◌, ◌&&◌, Bool, List, [], ◌∷◌, refl, ap, map, String, string_bytes}
use Rattle.std.specs.List.{list_any, list_all}
use Rattle.std.specs.Map.{keys_of}
use Rattle.std.specs.declared.alloc.Global.{Global}
use Rattle.serde_json.specs.View.{members_view}
use Rattle.serde_json.specs.declared.value.Value.{Value}
use Rattle.ppserve.specs.Shape.{has_only, is_one_of}

pub list_any-map : {X Y : Type 0} (p : X → Bool) (h : Y → X) (ys : List Y) → list_any p (map h ys) ≡ list_any (λ y. p (h y)) ys
list_any-map p h [] = refl
list_any-map p h (y ∷ ys) = ap (λ b. p (h y) || b) (list_any-map p h ys)

pub has_only-keys : (names : List (List ℕ)) (ms : List (String Global × Value)) → list_all (λ k. is_one_of (string_bytes k) names) (keys_of ms) ≡ has_only names (members_view ms)
has_only-keys names [] = refl
has_only-keys names (m ∷ ms) = ap (λ b. is_one_of (string_bytes m.0) names && b) (has_only-keys names ms)
