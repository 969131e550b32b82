-- The group-part to which the first line belongs, by the directive of the line.
use Rattle.std.proofs.Common.{◌≡◌, ◌≢◌, ℕ, Bool, true, false, List, [], ◌∷◌, ◌++◌, refl, sym, ap, ◌∙◌, subst, append_assoc, Option, None, Some, Result}
use Rattle.pptext.specs.declared.tokens.Fault.{Fault}
use Rattle.pptext.specs.declared.sources.Directive.{Directive}
use Rattle.pptext.specs.declared.sources.Directive.TheVariants.{If, Elif, Else, Endif, Null}
use Rattle.pptext.specs.declared.directives.Class.{Class}
use Rattle.pptext.specs.declared.directives.Class.TheVariants as class
use Rattle.pptext.specs.Classes.{class_of, opens, opens_section, elifs, ends, ends_group}
use Rattle.pptext.specs.Lines.{LogicalLine}
use Rattle.pptext.specs.Tree.{TextLine, ControlLine, Opens, Elses, GroupParts, Done, TextLines, Control, Section, Branches, End, Branch, part_lines, branch_lines, AreGroupParts, AreBranches, role, role_in, role_by}
use Rattle.ppexpand.specs.declared.meter.Meter.{Meter}
use Rattle.ppunit.specs.States.{Search, State}
use Rattle.ppunit.specs.Conditions.{Decides}
use Rattle.ppunit.specs.code.Walk.{EnclosingSections, lines_to_end, AreEnclosingSections, ContinuesIf, ContinuesBy}

-- ---- the lines of parts and of the if-sections around them

pub lay_run : (rs : List LogicalLine) (ps : GroupParts) (k : EnclosingSections) → lines_to_end (TextLines rs ps) k ≡ rs ++ lines_to_end ps k
lay_run rs ps [] = refl
lay_run rs ps ((bs, qs) ∷ k) = append_assoc rs (part_lines ps) (branch_lines bs ++ lines_to_end qs k)

pub lay_control : (r : LogicalLine) (ps : GroupParts) (k : EnclosingSections) → lines_to_end (Control r ps) k ≡ r ∷ lines_to_end ps k
lay_control r ps [] = refl
lay_control r ps ((bs, qs) ∷ k) = refl

pub lay_section : (r : LogicalLine) (ps qs : GroupParts) (bs : Branches) (k : EnclosingSections) → lines_to_end (Section r ps bs qs) k ≡ r ∷ lines_to_end ps ((bs, qs) ∷ k)
lay_section r ps qs bs [] = ap (λ (z : List LogicalLine). r ∷ z) (append_assoc (part_lines ps) (branch_lines bs) (part_lines qs))
lay_section r ps qs bs ((cs, rs) ∷ k) =
    ap (λ (z : List LogicalLine). r ∷ z)
    (append_assoc (part_lines ps ++ branch_lines bs) (part_lines qs) (branch_lines cs ++ lines_to_end rs k)
    ∙ append_assoc (part_lines ps) (branch_lines bs) (part_lines qs ++ (branch_lines cs ++ lines_to_end rs k)))

pub lay_branch : (r : LogicalLine) (ps qs : GroupParts) (bs : Branches) (k : EnclosingSections) → branch_lines (Branch r ps bs) ++ lines_to_end qs k ≡ r ∷ lines_to_end ps ((bs, qs) ∷ k)
lay_branch r ps qs bs k = ap (λ (z : List LogicalLine). r ∷ z) (append_assoc (part_lines ps) (branch_lines bs) (lines_to_end qs k))

-- ---- directives and their roles in the grammar

no_text : (c : Class) → role_in c ≢ TextLine
no_text (class.Opens q) e = cc
no_text (class.Elifs q) e = cc
no_text class.Else e = cc
no_text class.Endif e = cc
no_text c e = cc

pub text_directive : (d : Option Directive) → role_by d ≡ role_by None → d ≡ None
text_directive None e = refl
text_directive (Some d) e = absurd (no_text (class_of d) e)

pub endif_directive : (d : Option Directive) → role_by d ≡ role_by (Some Endif) → d ≡ Some Endif
endif_directive (Some Endif) e = refl
endif_directive d e = cc

pub else_directive : (d : Option Directive) → role_by d ≡ role_by (Some Else) → d ≡ Some Else
else_directive (Some Else) e = refl
else_directive d e = cc

-- A line with the role of `#elif` is not `#else`.
pub not_else : (d : Option Directive) → role_by d ≡ role_by (Some Elif) → d ≢ Some Else
not_else d e h = let differs : role_by (Some Elif) ≡ role_by (Some Else) = sym e ∙ ap role_by h in cc

elif_in : (c : Class) → role_in c ≡ Elses false → elifs c ≡ true
elif_in (class.Elifs q) e = refl
elif_in c e = absurd (cc)

pub condition_decides : (search : Search) (row : ℕ) (d : Option Directive) (s : State) (r : LogicalLine) (meter_after : Meter) (taken : Result Bool Fault)
    → role_by d ≡ role_by (Some Elif)
    → ContinuesBy search row d s r meter_after taken
    → Decides search row s r meter_after taken
condition_decides search row None s r meter_after taken e entered = absurd (cc)
condition_decides search row (Some d) s r meter_after taken e entered =
    subst (λ (b : Bool). ContinuesIf search row b s r meter_after taken) (elif_in (class_of d) e) entered

control_in : (c : Class) → opens c ≡ false → ends c ≡ false → role_in c ≡ ControlLine
control_in (class.Opens q) o e = absurd (cc)
control_in (class.Elifs q) o e = absurd (cc)
control_in class.Else o e = absurd (cc)
control_in class.Endif o e = absurd (cc)
control_in c o e = refl

pub control_role : (d : Directive) → opens_section d ≡ false → ends_group d ≡ false → role_by (Some d) ≡ role_by (Some Null)
control_role d o e = control_in (class_of d) o e

opening_in : (c : Class) → opens c ≡ true → role_in c ≡ Opens
opening_in (class.Opens q) e = refl
opening_in c e = absurd (cc)

pub opening_role : (d : Directive) → opens_section d ≡ true → role_by (Some d) ≡ role_by (Some If)
opening_role d e = opening_in (class_of d) e

pub record Differs (r : LogicalLine) : Type 0 where
  pub not_text : role r ≢ role_by None
  pub not_control : role r ≢ role_by (Some Null)
  pub not_opening : role r ≢ role_by (Some If)

ending_in : (c : Class) (r : LogicalLine) → ends c ≡ true → role r ≡ role_in c → Differs r
ending_in (class.Elifs q) r e is = record { not_text = λ h. cc; not_control = λ h. cc; not_opening = λ h. cc }
ending_in class.Else r e is = record { not_text = λ h. cc; not_control = λ h. cc; not_opening = λ h. cc }
ending_in class.Endif r e is = record { not_text = λ h. cc; not_control = λ h. cc; not_opening = λ h. cc }
ending_in c r e is = absurd (cc)

pub ending_role : (d : Directive) (r : LogicalLine) → ends_group d ≡ true → role r ≡ role_by (Some d) → Differs r
ending_role d r e is = ending_in (class_of d) r e is

pub branches_differ : (bs : Branches) (last : Bool) (r : LogicalLine) (rest following : List LogicalLine) → AreBranches last bs → branch_lines bs ++ rest ≡ r ∷ following → Differs r
branches_differ (End x) last r rest following is e =
    let same : x ≡ r = cc in
    let here = ap role (sym same) ∙ is in
    record { not_text = λ h. cc; not_control = λ h. cc; not_opening = λ h. cc }
branches_differ (Branch x ps bs) last r rest following (before, final, is, parts, more) e =
    let same : x ≡ r = cc in
    let here = ap role (sym same) ∙ is in
    record { not_text = λ h. cc; not_control = λ h. cc; not_opening = λ h. cc }

-- the first line is a text line, a control line, the opening line of an if-section, or ends a group
pub data First (r : LogicalLine) : GroupParts → EnclosingSections → Type 0 where
  text : {rs : List LogicalLine} {ps : GroupParts} {k : EnclosingSections} → role r ≡ role_by None → First r (TextLines rs ps) k
  control : {x : LogicalLine} {ps : GroupParts} {k : EnclosingSections} → x ≡ r → role r ≡ role_by (Some Null) → First r (Control x ps) k
  opening : {x : LogicalLine} {ps qs : GroupParts} {bs : Branches} {k : EnclosingSections} → x ≡ r → role r ≡ role_by (Some If) → First r (Section x ps bs qs) k
  ending : {bs : Branches} {qs : GroupParts} {k : EnclosingSections} → Differs r → First r Done ((bs, qs) ∷ k)

pub first_of : (ps : GroupParts) (k : EnclosingSections) (r : LogicalLine) (following : List LogicalLine) → lines_to_end ps k ≡ r ∷ following → AreGroupParts ps → AreEnclosingSections k → First r ps k
first_of Done [] r following e are outer = absurd (cc)
first_of Done ((bs, qs) ∷ k) r following e are outer = ending (branches_differ bs outer.0.0 r (lines_to_end qs k) following outer.0.1 e)
first_of (TextLines [] ps) k r following e are outer = absurd (are.0 refl)
first_of (TextLines (x ∷ rs) ps) k r following e are outer =
    let whole = sym (lay_run (x ∷ rs) ps k) ∙ e in
    let same : x ≡ r = cc in
    text (ap role (sym same) ∙ are.1.0)
first_of (Control x ps) k r following e are outer =
    let whole = sym (lay_control x ps k) ∙ e in
    let same : x ≡ r = cc in
    control same (ap role (sym same) ∙ are.0)
first_of (Section x ps bs qs) k r following e are outer =
    let whole = sym (lay_section x ps qs bs k) ∙ e in
    let same : x ≡ r = cc in
    opening same (ap role (sym same) ∙ are.0)
