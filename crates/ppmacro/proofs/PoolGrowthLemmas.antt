-- Tokens keep their hide sets while sets are added.
use Rattle.std.proofs.Common.{◌≡◌, ℕ, List, [], ◌∷◌, ◌++◌, Option, Some, None, IfSome, length, get_or, refl, sym, ap, ◌∙◌, arith, append_assoc, append-nil, length-append}
use Rattle.std.proofs.lemmas.List.{get_or_append_left}
use Rattle.std.specs.FinSet as set
use Rattle.ppmacro.specs.HideSetPool.{HideSetPool}
use Rattle.ppmacro.specs.PairCache.{CachedPairs, KeepsPairs}
use Rattle.ppmacro.specs.HideSets.{set_at, IsKnown, hidden_names, hide_of, hiding, hidings, HasSets, AllKnown, KeepsSets}
use Rattle.ppmacro.specs.declared.hidden_token.Hidden.{Hidden}

pub set-keeps : {old new : HideSetPool} (n : ℕ) → KeepsSets old new → IsKnown old n → set_at new n ≡ set_at old n
set-keeps {old} {new} n k known = ap (λ s. get_or s n set.empty) k.is ∙ get_or_append_left old.sets k.more set.empty n known

pub known-set : {old new : HideSetPool} (n : ℕ) → KeepsSets old new → IsKnown old n → IsKnown new n
known-set {old} {new} n k known = omega (arith, ap length k.is, length-append old.sets k.more)

names-keep : {old new : HideSetPool} (n : ℕ) (extra : Option ℕ) → KeepsSets old new → IsKnown old n → IfSome extra (IsKnown old) → hidden_names new n extra ≡ hidden_names old n extra
names-keep n None k known second = set-keeps n k known
names-keep n (Some m) k known second = λ i. set.union (set-keeps n k known i) (set-keeps m k second i)

known-second : {old new : HideSetPool} (extra : Option ℕ) → KeepsSets old new → IfSome extra (IsKnown old) → IfSome extra (IsKnown new)
known-second None k known = tt
known-second (Some m) k known = known-set m k known

pub hide-keeps : {old new : HideSetPool} (h : Hidden) → KeepsSets old new → HasSets old h → hide_of new h ≡ hide_of old h
hide-keeps h k known = names-keep h.hide h.extra k known.hide known.extra

pub known-sets : {old new : HideSetPool} (h : Hidden) → KeepsSets old new → HasSets old h → HasSets new h
known-sets h k known = record { hide = known-set h.hide k known.hide; extra = known-second h.extra k known.extra }

pub hiding-keeps : {old new : HideSetPool} (h : Hidden) → KeepsSets old new → HasSets old h → hiding new h ≡ hiding old h
hiding-keeps h k known = λ i. record { token = h.token; hide = hide-keeps h k known i }

pub hidings-keeps : {old new : HideSetPool} (hs : List Hidden) → KeepsSets old new → AllKnown old hs → hidings new hs ≡ hidings old hs
hidings-keeps [] k known = refl
hidings-keeps (h ∷ hs) k known =
    let rest = hidings-keeps hs k (record { each = known.each.1 }) in
    λ i. hiding-keeps h k known.each.0 i ∷ rest i

pub known-keeps : {old new : HideSetPool} (hs : List Hidden) → KeepsSets old new → AllKnown old hs → AllKnown new hs
known-keeps [] k known = record { each = tt }
known-keeps (h ∷ hs) k known =
    let rest = known-keeps hs k (record { each = known.each.1 }) in
    record { each = (known-sets h k known.each.0, rest.each) }

-- `KeepsPairs` is reflexive and transitive.
pub pairs-are : {ps qs : CachedPairs} → ps ≡ qs → KeepsPairs ps qs
pairs-are {ps} e = record { more = []; is = sym e ∙ sym (append-nil ps) }

pairs-after : {a b c : CachedPairs} → KeepsPairs a b → KeepsPairs b c → KeepsPairs a c
pairs-after h k = record { more = h.more ++ k.more; is = k.is ∙ ap (λ ps. ps ++ k.more) h.is ∙ append_assoc _ h.more k.more }

pub keeps-all : (s : HideSetPool) → KeepsSets s s
keeps-all s = record { more = []; is = sym (append-nil s.sets); unions = pairs-are refl; intersections = pairs-are refl; hashing = refl }

pub keeps-after : {a b c : HideSetPool} → KeepsSets a b → KeepsSets b c → KeepsSets a c
keeps-after h k = record {
  more = h.more ++ k.more;
  is = k.is ∙ ap (λ s. s ++ k.more) h.is ∙ append_assoc _ h.more k.more;
  unions = pairs-after h.unions k.unions;
  intersections = pairs-after h.intersections k.intersections;
  hashing = k.hashing ∙ h.hashing;
}

pub known-append : {s : HideSetPool} (gs hs : List Hidden) → AllKnown s gs → AllKnown s hs → AllKnown s (gs ++ hs)
known-append [] hs g h = h
known-append (x ∷ gs) hs g h =
    let rest = known-append gs hs (record { each = g.each.1 }) h in
    record { each = (g.each.0, rest.each) }

pub known-front : {s : HideSetPool} (gs hs : List Hidden) → AllKnown s (gs ++ hs) → AllKnown s gs
known-front [] hs k = record { each = tt }
known-front {s} (x ∷ gs) hs k =
    let rest = known-front {s = s} gs hs (record { each = k.each.1 }) in
    record { each = (k.each.0, rest.each) }

pub known-rest : {s : HideSetPool} (gs hs : List Hidden) → AllKnown s (gs ++ hs) → AllKnown s hs
known-rest [] hs k = k
known-rest (x ∷ gs) hs k = known-rest gs hs (record { each = k.each.1 })
