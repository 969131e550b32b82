-- Chains of one entry, as in a list without `#` and `##`.
use Rattle.std.proofs.Common.{◌≡◌, Bool, true, false, ◌&&◌, ℕ, List, [], ◌∷◌, map, refl, sym, ap, ◌∙◌, Option, Some, None}
use Rattle.std.specs.List.{list_any}
use Rattle.std.proofs.lemmas.Bool.{or_parts}
use Rattle.pptext.specs.declared.tokens.Token.{Token}
use Rattle.ppmacro.specs.HashOperators.{is_hash, is_paste}
use Rattle.ppmacro.specs.declared.macros.MacroKind.{MacroKind}
use Rattle.ppmacro.specs.declared.macros.Operand.TheVariants as operand
use Rattle.ppmacro.specs.declared.patterns.Entry.{Entry}
use Rattle.ppmacro.specs.declared.patterns.Entry.TheVariants.{Tok, Param}
use Rattle.ppmacro.specs.Chains.{ChainPart, parts_at, parts_after, plain_part, parameter_of, is_function_like, begins_joined, group_parts, hash_sign, lenient_parameter, with_variadic}
use Rattle.ppmacro.specs.Entries.{is_operator, entry_at, entry_of, entry_chain}
use Rattle.ppmacro.proofs.ChainLemmas.{group_parts-alone}

no_hash : (b h : Bool) → h ≡ false → (b && h) ≡ false
no_hash true h none = none
no_hash false h none = refl

one_item : (s : MacroKind) (t : Token) (ts : List Token) → is_operator t ≡ false → parts_after s None (t ∷ ts) ≡ plain_part (parameter_of s t) t ∷ parts_after s None ts
one_item s t ts a =
    let none = or_parts (is_paste t) (is_hash t) a in
    λ i. parts_at (none.0 i) (no_hash (is_function_like s) (is_hash t) none.1 i) (plain_part (parameter_of s t) t) (parts_after s None ts) (parts_after s (Some (hash_sign t)) ts)

begins_alone : (p : Option ℕ) (t : Token) (is : List ChainPart) → begins_joined (plain_part p t ∷ is) ≡ false
begins_alone (Some i) t is = refl
begins_alone None t is = refl

unjoined : (s : MacroKind) (ts : List Token) → list_any is_operator ts ≡ false → begins_joined (parts_after s None ts) ≡ false
unjoined s [] a = refl
unjoined s (t ∷ ts) a =
    ap begins_joined (one_item s t ts (or_parts (is_operator t) (list_any is_operator ts) a).0)
    ∙ begins_alone (parameter_of s t) t (parts_after s None ts)

grouped_entry : (p : Option ℕ) (t : Token) (is : List ChainPart) → begins_joined is ≡ false → group_parts (plain_part p t ∷ is) ≡ entry_chain (entry_at p t) ∷ group_parts is
grouped_entry (Some i) t is h = group_parts-alone t.space (operand.Param i) is h
grouped_entry None t is h = group_parts-alone t.space (operand.Tok t) is h

all_alone : (s : MacroKind) (ts : List Token) → list_any is_operator ts ≡ false → map entry_chain (map (entry_of s) ts) ≡ group_parts (parts_after s None ts)
all_alone s [] a = refl
all_alone s (t ∷ ts) a =
    let none = or_parts (is_operator t) (list_any is_operator ts) a in
    ap (λ cs. entry_chain (entry_of s t) ∷ cs) (all_alone s ts none.1)
    ∙ sym (grouped_entry (parameter_of s t) t (parts_after s None ts) (unjoined s ts none.1))
    ∙ ap group_parts (sym (one_item s t ts none.0))

-- `with_variadic` doesn't change the chain of an entry.
restless : (rest : Option ℕ) (e : Entry) → entry_chain e ≡ with_variadic rest (entry_chain e)
restless None e = refl
restless (Some i) (Tok t) = refl
restless (Some i) (Param space j) = refl

all_restless : (rest : Option ℕ) (es : List Entry) → map entry_chain es ≡ map (with_variadic rest) (map entry_chain es)
all_restless rest [] = refl
all_restless rest (e ∷ es) = λ i. restless rest e i ∷ all_restless rest es i

pub entry_chains : (s : MacroKind) (ts : List Token) → list_any is_operator ts ≡ false → map entry_chain (map (entry_of s) ts) ≡ map (with_variadic (lenient_parameter s)) (group_parts (parts_after s None ts))
entry_chains s ts a = all_restless (lenient_parameter s) (map (entry_of s) ts) ∙ ap (map (with_variadic (lenient_parameter s))) (all_alone s ts a)
