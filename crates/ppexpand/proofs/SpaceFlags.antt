-- Leading-space flags in lists of tokens with hide sets.
use Rattle.std.proofs.Common.{◌≡◌, ℕ, suc, ◌<◌, ◌≤◌, List, [], ◌∷◌, ◌++◌, length, reverse, take, Bool, true, false, refl, sym, ap, ◌∙◌}
use Rattle.std.proofs.Math.ListN.{set, get_or, drop_of_length-le}
use Rattle.std.proofs.Math.Seq.{split_at}
use Rattle.std.proofs.lemmas.List.{set_split, reverse-append}
use Rattle.ppmacro.specs.HideSetPool.{HideSetPool}
use Rattle.ppmacro.specs.HideSets.{hidings, AllKnown}
use Rattle.ppmacro.specs.declared.hidden_token.Hidden.{Hidden}
use Rattle.ppexpand.specs.ExpansionStep.{space_next}
use Rattle.ppexpand.specs.code.Lists.{spaced}

abbrev pub with_space : Hidden → Hidden
with_space h = record h { token = record h.token { space = true } }

top : (xs : List Hidden) (i : ℕ) (x : Hidden) → i < length xs → length xs ≤ suc i → reverse (set xs i x) ≡ x ∷ reverse (take i xs)
top xs i x h k = ap reverse (set_split xs i x h) ∙ ap (λ ys. reverse (take i xs ++ x ∷ ys)) (drop_of_length-le xs k) ∙ reverse-append (take i xs) (x ∷ [])

whole : (xs : List Hidden) (i : ℕ) (d : Hidden) → i < length xs → length xs ≤ suc i → reverse xs ≡ get_or xs i d ∷ reverse (take i xs)
whole xs i d h k = ap reverse (split_at xs i d h) ∙ ap (λ ys. reverse (take i xs ++ get_or xs i d ∷ ys)) (drop_of_length-le xs k) ∙ reverse-append (take i xs) (get_or xs i d ∷ [])

-- Setting the flag of the last token sets the flag of the first token of the reversed list.
pub spaced-top : (xs : List Hidden) (i : ℕ) (x d : Hidden) (rest : List Hidden) → i < length xs → length xs ≤ suc i → x ≡ with_space (get_or xs i d) → reverse (set xs i x) ++ rest ≡ spaced true (reverse xs ++ rest)
spaced-top xs i x d rest h k e = ap (λ ys. ys ++ rest) (top xs i x h k) ∙ ap (λ y. y ∷ (reverse (take i xs) ++ rest)) e ∙ ap (λ ys. spaced true (ys ++ rest)) (sym (whole xs i d h k))

-- `spaced` on tokens of the code is `space_next` on their values.
pub hidings-spaced : (sets : HideSetPool) (b : Bool) (hs : List Hidden) → hidings sets (spaced b hs) ≡ space_next b (hidings sets hs)
hidings-spaced sets true (h ∷ hs) = refl
hidings-spaced sets true [] = refl
hidings-spaced sets false hs = refl

pub known-spaced : (sets : HideSetPool) (b : Bool) (hs : List Hidden) → AllKnown sets hs → AllKnown sets (spaced b hs)
known-spaced sets true (h ∷ hs) k = record { each = (record { hide = k.each.0.hide; extra = k.each.0.extra }, k.each.1) }
known-spaced sets true [] k = k
known-spaced sets false hs k = k
