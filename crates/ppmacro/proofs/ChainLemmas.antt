-- Chains that are built from left to right, one part at a time.
use Rattle.std.proofs.Common.{◌≡◌, ℕ, zero, suc, Bool, true, false, List, [], ◌∷◌, ◌++◌, length, set, get_or, refl, sym, ap, ◌∙◌, arith, append_assoc, append-nil}
use Rattle.ppmacro.specs.declared.macros.Chain.{Chain}
use Rattle.ppmacro.specs.declared.macros.Operand.{Operand}
use Rattle.ppmacro.specs.Chains.{ChainPart, OperandPart, begins_joined, join_first, group_parts}
use Rattle.ppmacro.specs.code.ChainParts.{joined_to, append_chains, append_parts}

-- ---- one more operand

abbrev lone : Bool → Operand → Chain
lone space o = record { space = space; operands = o ∷ [] }

abbrev with_operand : Chain → Operand → Chain
with_operand c o = record { space = c.space; operands = c.operands ++ o ∷ [] }

abbrev added : Bool → Bool → Operand → List Chain → List Chain
added true space o ds = join_first space o ds
added false space o ds = lone space o ∷ ds

group_parts-added : (space : Bool) (o : Operand) (is : List ChainPart) → group_parts (OperandPart space o ∷ is) ≡ added (begins_joined is) space o (group_parts is)
group_parts-added space o is = elim (begins_joined is) as (λ b. elim b [ true ↦ join_first space o (group_parts is) | false ↦ lone space o ∷ group_parts is ] ≡ added b space o (group_parts is)) [ true ↦ refl | false ↦ refl ]

-- The first operand is a chain of its own if no `##` follows it.
pub group_parts-alone : (space : Bool) (o : Operand) (is : List ChainPart) → begins_joined is ≡ false → group_parts (OperandPart space o ∷ is) ≡ record { space = space; operands = o ∷ [] } ∷ group_parts is
group_parts-alone space o is e = rw (group_parts, e) refl

joined_to-lone : (space : Bool) (o : Operand) (ds : List Chain) → joined_to (lone space o) ds ≡ join_first space o ds
joined_to-lone space o [] = refl
joined_to-lone space o (d ∷ ds) = refl

append_chains-push : (cs : List Chain) (space : Bool) (o : Operand) (ds : List Chain) → append_chains true (cs ++ lone space o ∷ []) ds ≡ cs ++ join_first space o ds
append_chains-push [] space o ds = joined_to-lone space o ds
append_chains-push (c ∷ []) space o ds = ap (λ es. c ∷ es) (joined_to-lone space o ds)
append_chains-push (c ∷ (b ∷ cs)) space o ds = ap (λ es. c ∷ es) (append_chains-push (b ∷ cs) space o ds)

pub append_parts-begin : (cs : List Chain) (space : Bool) (o : Operand) (is : List ChainPart) → append_parts false (cs ++ record { space = space; operands = o ∷ [] } ∷ []) is ≡ append_parts false cs (OperandPart space o ∷ is)
append_parts-begin cs space o is = by_cases (begins_joined is) (group_parts is) ∙ ap (λ ds. cs ++ ds) (sym (group_parts-added space o is))
  where
    by_cases : (b : Bool) (ds : List Chain) → append_chains b (cs ++ lone space o ∷ []) ds ≡ cs ++ added b space o ds
    by_cases true ds = append_chains-push cs space o ds
    by_cases false ds = append_assoc cs (lone space o ∷ []) ds

joined_to-added : (c : Chain) (b space : Bool) (o : Operand) (ds : List Chain) → append_chains b (with_operand c o ∷ []) ds ≡ joined_to c (added b space o ds)
joined_to-added c true space o [] = refl
joined_to-added c true space o (d ∷ ds) = λ i. record { space = c.space; operands = append_assoc c.operands (o ∷ []) d.operands i } ∷ ds
joined_to-added c false space o ds = refl

append_chains-set : (cs : List Chain) (n : ℕ) (c : Chain) (b space : Bool) (o : Operand) (ds : List Chain) → length cs ≡ suc n → c ≡ get_or cs n c
    → append_chains b (set cs n (with_operand c o)) ds ≡ append_chains true cs (added b space o ds)
append_chains-set [] n c b space o ds h e = absurd (omega arith)
append_chains-set (x ∷ []) zero c b space o ds h e = joined_to-added c b space o ds ∙ ap (λ y. joined_to y (added b space o ds)) e
append_chains-set (x ∷ []) (suc n) c b space o ds h e = absurd (omega arith)
append_chains-set (x ∷ (y ∷ cs)) zero c b space o ds h e = absurd (omega arith)
append_chains-set (x ∷ (y ∷ cs)) (suc n) c b space o ds h e = steps b n (omega arith) ∙ ap (λ es. x ∷ es) (append_chains-set (y ∷ cs) n c b space o ds (omega arith) e)
  where
    steps : (b : Bool) (k : ℕ) → length (y ∷ cs) ≡ suc k → append_chains b (x ∷ set (y ∷ cs) k (with_operand c o)) ds ≡ x ∷ append_chains b (set (y ∷ cs) k (with_operand c o)) ds
    steps true zero g = refl
    steps true (suc k) g = refl
    steps false k g = refl

pub append_parts-joined : (cs : List Chain) (n : ℕ) (c : Chain) (space : Bool) (o : Operand) (is : List ChainPart)
    → length cs ≡ suc n
    → c ≡ get_or cs n c
    → append_parts false (set cs n (record { space = c.space; operands = c.operands ++ o ∷ [] })) is ≡ append_parts true cs (OperandPart space o ∷ is)
append_parts-joined cs n c space o is h e = append_chains-set cs n c (begins_joined is) space o (group_parts is) h e ∙ ap (λ ds. append_chains true cs ds) (sym (group_parts-added space o is))

-- ---- no chain so far, a `##`, and no part left

pub append_parts-end : (joined : Bool) (cs : List Chain) → append_parts joined cs [] ≡ cs
append_parts-end false cs = append-nil cs
append_parts-end true [] = refl
append_parts-end true (c ∷ []) = refl
append_parts-end true (c ∷ (b ∷ cs)) = ap (λ es. c ∷ es) (append_parts-end true (b ∷ cs))
