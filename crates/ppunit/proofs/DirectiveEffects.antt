-- A control line that opens no file and isn't `#error` has an effect. Only this file splits on the directives of these
-- lines: the other lemmas cite what it says of effects. Lines that define, undefine or bring back one name leave what each
-- other name is.
use Rattle.std.proofs.Common.{◌≡◌, ℕ, Bool, true, false, cond, List, [], ◌∷◌, ◌++◌, append_assoc, Option, Some, None, Result, Ok, Err, codes, refl, sym, ap, ◌∙◌, if◌then◌else◌, ◌≢◌, ◌≤◌, ◌⊎◌, inl, inr, subst, arith}
use Rattle.std.specs.FinMap as table
use Rattle.std.specs.Ordering.{nat_cmp, eq_by_cmp}
use Rattle.std.specs.Cmp.Lexicographic.{slice_cmp, nat_list_eq_equiv}
use Rattle.std.specs.Str.{bytes_eq}
use Rattle.std.proofs.lemmas.Map.Text.{is_eq-slice_cmp}
use Rattle.std.proofs.lemmas.Cmp.{nat_list_cmp_total}
use Rattle.pptext.specs.declared.tokens.Place.{Place}
use Rattle.pptext.specs.declared.tokens.Token.{Token}
use Rattle.pptext.specs.declared.tokens.Fault.{Fault}
use Rattle.pptext.specs.declared.sources.Profile.{Profile}
use Rattle.pptext.specs.Profiles.{is_gnu}
use Rattle.pptext.specs.Tokens.{is_identifier, fault}
use Rattle.ppmacro.specs.Names.{Name, Macros}
use Rattle.ppmacro.specs.Define.{Refusal, is_reserved, with_macro_name, read_definition, check_body, insert_definition, remove_name, after_define, after_undef, Leaves}
use Rattle.ppmacro.specs.PushedMacros.{put, last_of, macros_by, with_pushed, macros_after_pop, pushed_after_pop}
use Rattle.ppmacro.specs.declared.macros.Macro.{Macro}
use Rattle.ppmacro.specs.declared.pushed_macros.PushedMacro.{PushedMacro}
use Rattle.ppexpand.specs.ExpansionStep.{macro_of}
use Rattle.ppunit.specs.Directives.{names_token, is_name, name_after, name_to_pop, ExecutesDirective, with_macros, renumbered_by, is_once, name_to_push, noting_push, noting_pop}
use Rattle.ppunit.specs.Directives.{is_system_header, noting_system_header, pragma_emitted, checks_quotes, is_refused}
use Rattle.ppunit.specs.code.Effects.{macros_by_pop, Effect, affected, no_effect, only_fault, macros_effect, pushed_by_push, pushed_by_pop, system_marks, pragma_effect, immediate_effect, line_effect, HasEffect}
use Rattle.pptext.specs.declared.sources.Directive.{Directive}
use Rattle.pptext.specs.declared.sources.Directive.TheVariants.{Define, Undef, Line, Pragma, Null, Unknown}
use Rattle.pptext.specs.declared.directives.Class.{Class}
use Rattle.pptext.specs.declared.directives.Class.TheVariants as class
use Rattle.pptext.specs.Classes.{class_by, class_of, opens, ends}
use Rattle.pptext.specs.Lines.{LogicalLine}
use Rattle.pptext.specs.Tree.{hash_place}
use Rattle.std.specs.Result.{result_err}
use Rattle.ppmacro.proofs.FaultNumbers.{define_number, undef_number}
use Rattle.ppexpand.specs.declared.meter.Meter.{Meter}
use Rattle.ppexpand.specs.declared.env.Env.{Env}
use Rattle.ppexpand.specs.Expansion.{Expansion, IsExpansion, count_expansion}
use Rattle.ppunit.specs.declared.units.Item.{Item}
use Rattle.ppunit.specs.declared.units.Item.TheVariants as item
use Rattle.ppunit.specs.declared.units.MarkSort.TheVariants as mark_sort
use Rattle.ppunit.specs.Dependencies.{with_row}
use Rattle.ppunit.specs.States.{State, Progress, running, stopped, kept, emitted, marked, with_system_row, with_once, with_meter}
use Rattle.ppunit.specs.DirectiveLines.{operands, line_fault, named_fault}
use Rattle.ppunit.specs.LineControl.{Presumed, presumed}
use Rattle.ppunit.specs.Directives.{expanded_operands, pragma_expanded, ExpandsPragma, ExecutesPragma}
use Rattle.ppunit.specs.Counts.{count_pragma, count_control_by}
use Rattle.ppunit.specs.code.Effects.{immediate_pragma, expanded_pragma_effect, expanded_tokens, expanding_effect}
use Rattle.ppunit.proofs.KeptItems.{kept-nothing}

-- ---- tables

same_test : (name other : Name) → bytes_eq name other ≡ eq_by_cmp (slice_cmp nat_cmp) other name
same_test name other = symm name other ∙ sym (is_eq-slice_cmp other name)
  where
    symm : (x y : Name) → bytes_eq x y ≡ bytes_eq y x
    symm = nat_list_eq_equiv.symm

is_other : (name other : Name) → bytes_eq name other ≡ false → eq_by_cmp (slice_cmp nat_cmp) other name ≡ false
is_other name other h = sym (same_test name other) ∙ h

inserted : (macros : Macros) (name other : Name) (d : Macro) → bytes_eq name other ≡ false
    → table.get (table.insert macros name d) other ≡ table.get macros other
inserted macros name other d h =
    table.get-insert nat_list_cmp_total macros name d other ∙ ap (λ b. cond b (Some d) (table.get macros other)) (is_other name other h)

removed : (macros : Macros) (name other : Name) → bytes_eq name other ≡ false → table.get (table.remove macros name) other ≡ table.get macros other
removed macros name other h = table.get-remove nat_list_cmp_total macros name other ∙ ap (λ b. cond b None (table.get macros other)) (is_other name other h)

put_other : (macros : Macros) (name other : Name) (definition : Option Macro) → bytes_eq name other ≡ false
    → table.get (put macros name definition) other ≡ table.get macros other
put_other macros name other (Some d) h = inserted macros name other d h
put_other macros name other None h = removed macros name other h

-- ---- tokens

-- the macro that the token names is the same in both tables
abbrev pub Unchanged : Token → Macros → Macros → Type 0
Unchanged t macros new = macro_of new t ≡ macro_of macros t

unchanged : (t : Token) (macros new : Macros) → table.get new t.text ≡ table.get macros t.text → Unchanged t macros new
unchanged t macros new same = ap (λ (g : Option Macro). if is_identifier t then g else None) same

-- the same after a line, if it has no fault
abbrev pub UnchangedBy : Token → Macros → Result Macros Fault → Type 0
UnchangedBy t macros (Ok new) = Unchanged t macros new
UnchangedBy t macros (Err f) = Unit {0}

-- `#define` of another name
pub define_other : (profile : Profile) (macros : Macros) (at : Place) (os : List Token) (t : Token) → names_token t os ≡ false
    → UnchangedBy t macros (after_define profile macros at os)
define_other profile macros at [] t h = tt
define_other profile macros at (o ∷ os) t h = chosen (is_identifier o) (is_reserved profile o.text)
  where
    named : (r : Result Macro Refusal) → UnchangedBy t macros (insert_definition macros (with_macro_name at o.text r))
    named (Ok d) = unchanged t macros (table.insert macros o.text d) (inserted macros o.text t.text d h)
    named (Err r) = tt

    chosen : (identifier reserved : Bool) → UnchangedBy t macros (insert_definition macros (
        if identifier then (
        if reserved then Err (fault 10 at o.text) else
        with_macro_name at o.text (check_body profile macros o.text (read_definition profile os))) else Err (fault 9 at (codes "define"))))
    chosen true true = tt
    chosen true false = named (check_body profile macros o.text (read_definition profile os))
    chosen false reserved = tt

-- `#undef` of another name
pub undef_other : (profile : Profile) (macros : Macros) (at : Place) (os : List Token) (t : Token) → names_token t os ≡ false
    → UnchangedBy t macros (after_undef profile macros at os)
undef_other profile macros at [] t h = tt
undef_other profile macros at (o ∷ []) t h = chosen (is_identifier o) (is_reserved profile o.text)
  where
    chosen : (identifier reserved : Bool) → UnchangedBy t macros (remove_name macros (
        if identifier then (if reserved then Err (fault 10 at o.text) else Ok o.text) else Err (fault 9 at (codes "undef"))))
    chosen true true = tt
    chosen true false = unchanged t macros (table.remove macros o.text) (removed macros o.text t.text h)
    chosen false reserved = tt
undef_other profile macros at (o ∷ (p ∷ os)) t h = tt

-- `#pragma pop_macro` of another name
popped_other : (t : Token) (macros : Macros) (pushed : List PushedMacro) (name : Option Name) → is_name t.text name ≡ false
    → Unchanged t macros (macros_by_pop name macros pushed)
popped_other t macros pushed None h = refl
popped_other t macros pushed (Some name) h = by (last_of name pushed)
  where
    by : (last : Option (PushedMacro × List PushedMacro)) → Unchanged t macros (macros_by macros name last)
    by None = refl
    by (Some (last, others)) = unchanged t macros (put macros name last.definition) (put_other macros name t.text last.definition h)

pub pop_other : (profile : Profile) (t : Token) (macros : Macros) (pushed : List PushedMacro) (os : List Token)
    → is_name t.text (name_after (codes "pop_macro") os) ≡ false
    → Unchanged t macros (macros_by_pop (name_to_pop profile os) macros pushed)
pop_other profile t macros pushed os h = popped_other t macros pushed (name_to_pop profile os) (in_profile (is_gnu profile))
  where
    in_profile : (gnu : Bool) → is_name t.text (if gnu then name_after (codes "pop_macro") os else None) ≡ false
    in_profile true = h
    in_profile false = refl

-- ---- the outcome of each effect

-- a line that emits nothing
nothing_emitted : (s : State) (macros : Macros) (env : Env) (f : Option Fault)
    → affected s (record { macros = macros; items = []; once = s.once; pushed = s.pushed; env = env; system = s.system; system_rows = s.system_rows; fault = f }) ≡ record { state = record s { macros = macros; env = env }; fault = f }
nothing_emitted s macros env f = ap (λ items. record { state = record s { macros = macros; items = items; env = env }; fault = f }) (kept-nothing s.keeps s.items)

of_macros : (s : State) (r : Result Macros Fault) → affected s (macros_effect s r) ≡ with_macros s r
of_macros s (Ok macros) = nothing_emitted s macros s.env None
of_macros s (Err f) = nothing_emitted s s.macros s.env (Some f)

-- What is emitted in two steps is emitted in one.
kept-both : (keeps : Bool) (items first more : List Item) → kept keeps items (first ++ more) ≡ kept keeps (kept keeps items first) more
kept-both true items first more = sym (append_assoc items first more)
kept-both false items first more = refl

of_pragma : (profile : Profile) (row : ℕ) (s : State) (line : LogicalLine) → affected s (pragma_effect profile row s line) ≡ running (pragma_emitted profile row s line)
of_pragma profile row s line = noted (is_once profile (operands line.tokens)) (name_to_push profile (operands line.tokens)) (name_to_pop profile (operands line.tokens))
  where
    pragma : List Item
    pragma = item.Pragma (hash_place line.tokens) (operands line.tokens) ∷ []

    t : State
    t = emitted s pragma

    flag : Option ℕ → Bool
    flag directory = is_system_header profile directory (operands line.tokens)

    noted_system : (system : Bool) (macros : Macros) (once : List ℕ) (pushed : List PushedMacro)
        → running (record s {
          macros = macros;
          items = kept s.keeps s.items (pragma ++ system_marks system row s.env s.system_rows line);
          once = once;
          pushed = pushed;
          system = if system then true else s.system;
          system_rows = if system then with_row row s.system_rows else s.system_rows;
        })
        ≡ running (if system then
        marked (with_system_row true (record t { macros = macros; once = once; pushed = pushed; system = true }) row) mark_sort.Line row line.number
        else record t { macros = macros; once = once; pushed = pushed })
    noted_system true macros once pushed =
        ap (λ (items : List Item).
        running (record s { macros = macros; items = items; once = once; pushed = pushed; system = true; system_rows = with_row row s.system_rows }))
        (kept-both s.keeps s.items pragma (system_marks true row s.env s.system_rows line))
    noted_system false macros once pushed = refl

    noted : (b : Bool) (push pop : Option Name)
        → running (record s {
          macros = macros_by_pop pop s.macros (pushed_by_push push s.macros s.pushed);
          items = kept s.keeps s.items (pragma ++ system_marks (flag s.directory) row s.env s.system_rows line);
          once = if b then with_row row s.once else s.once;
          pushed = pushed_by_pop pop (pushed_by_push push s.macros s.pushed);
          system = if flag s.directory then true else s.system;
          system_rows = if flag s.directory then with_row row s.system_rows else s.system_rows;
        }) ≡ running (noting_system_header profile row line (noting_pop pop (noting_push push (if b then with_once t row else t))))
    noted true None None = noted_system (flag s.directory) s.macros (with_row row s.once) s.pushed
    noted true None (Some name) = noted_system (flag s.directory) (macros_after_pop s.macros name s.pushed) (with_row row s.once) (pushed_after_pop name s.pushed)
    noted true (Some name) None = noted_system (flag s.directory) s.macros (with_row row s.once) (with_pushed s.macros name s.pushed)
    noted true (Some name) (Some other) =
        let pushed = with_pushed s.macros name s.pushed in
        noted_system (flag s.directory) (macros_after_pop s.macros other pushed) (with_row row s.once) (pushed_after_pop other pushed)
    noted false None None = noted_system (flag s.directory) s.macros s.once s.pushed
    noted false None (Some name) = noted_system (flag s.directory) (macros_after_pop s.macros name s.pushed) s.once (pushed_after_pop name s.pushed)
    noted false (Some name) None = noted_system (flag s.directory) s.macros s.once (with_pushed s.macros name s.pushed)
    noted false (Some name) (Some other) =
        let pushed = with_pushed s.macros name s.pushed in
        noted_system (flag s.directory) (macros_after_pop s.macros other pushed) s.once (pushed_after_pop other pushed)

of_line : (s : State) (row : ℕ) (line : LogicalLine) (f : Option Fault) (p : Option Presumed) (meter : Meter)
    → affected (with_meter s meter) (line_effect s row line f p) ≡ renumbered_by (with_meter s meter) row line f p
of_line s row line (Some f) p meter = nothing_emitted (with_meter s meter) s.macros s.env (Some f)
of_line s row line None None meter = nothing_emitted (with_meter s meter) s.macros s.env (Some (line_fault 33 line.tokens []))
of_line s row line None (Some p) meter = refl

of_expanded_pragma : (s : State) (line : List Token) (f : Option Fault) (tokens : List Token) (meter : Meter)
    → affected (with_meter s meter) (expanded_pragma_effect s line f tokens) ≡ pragma_expanded (with_meter s meter) line f tokens
of_expanded_pragma s line (Some f) tokens meter = nothing_emitted (with_meter s meter) s.macros s.env (Some f)
of_expanded_pragma s line None tokens meter = refl

-- what `#define` and `#undef` leave in the table
pub leaves_macros : (s : State) (new : Macros) (r : Result (Unit {0}) Fault) (a : Result Macros Fault) → Leaves s.macros new r a → record { state = record s { macros = new }; fault = result_err r } ≡ with_macros s a
leaves_macros s new (Ok u) a is = ap (with_macros s) (sym is)
leaves_macros s new (Err f) a (is, same) = ap (λ (m : Macros). record { state = record s { macros = m }; fault = Some f }) same ∙ ap (with_macros s) (sym is)

-- ---- executing a line is having its effect

pub same_effect : (a b : Effect) → Some a ≡ Some b → a ≡ b
same_effect a b e = cc

pub no_immediate : (e : Effect) → None ≡ Some e → ⊥
no_immediate e is = absurd (cc)

no_tokens : (tokens : List Token) → None ≡ Some tokens → ⊥
no_tokens tokens is = absurd (cc)

same_tokens : (a b : List Token) → Some a ≡ Some b → a ≡ b
same_tokens a b e = cc

-- a pragma, by the tokens that it expands
effect_of_pragma : (os : Option (List Token)) (profile : Profile) (row : ℕ) (s : State) (line : LogicalLine) (m : Progress)
    → expanded_operands profile s.macros (operands line.tokens) ≡ os
    → ExecutesPragma os profile row s line m
    → HasEffect profile row (Some Pragma) s line m
effect_of_pragma None profile row s line m is g =
    HasEffect.immediate (ap (λ os. immediate_pragma os profile row s line) is) (g ∙ sym (of_pragma profile row s line))
effect_of_pragma (Some tokens) profile row s line m is g =
    HasEffect.expanding g.expanded is g.expands (g.is ∙ sym (of_expanded_pragma s line.tokens g.expanded.fault g.expanded.tokens g.expanded.meter))

pub effect_of : (profile : Profile) (row : ℕ) (d : Option Directive) (s : State) (line : LogicalLine) (m : Progress) → ExecutesDirective profile row d s line m → HasEffect profile row d s line m
effect_of profile row (Some Null) s line m g = HasEffect.immediate refl (g ∙ sym (nothing_emitted s s.macros s.env None))
effect_of profile row (Some Define) s line m g = HasEffect.immediate refl (g ∙ sym (of_macros s (after_define profile s.macros (hash_place line.tokens) (operands line.tokens))))
effect_of profile row (Some Undef) s line m g = HasEffect.immediate refl (g ∙ sym (of_macros s (after_undef profile s.macros (hash_place line.tokens) (operands line.tokens))))
effect_of profile row (Some Line) s line m g =
    HasEffect.expanding g.expanded refl g.expands (g.is ∙ sym (of_line s row line g.expanded.fault (presumed g.expanded.tokens) g.expanded.meter))
effect_of profile row (Some Pragma) s line m g = effect_of_pragma (expanded_operands profile s.macros (operands line.tokens)) profile row s line m refl g
effect_of profile row (Some Unknown) s line m g = HasEffect.immediate refl (g ∙ sym (nothing_emitted s s.macros s.env (Some (named_fault 8 line.tokens))))
effect_of profile row d s line m g = absurd g

executes_pragma_at_once : (os : Option (List Token)) (profile : Profile) (row : ℕ) (s : State) (line : LogicalLine) (e : Effect)
    → immediate_pragma os profile row s line ≡ Some e
    → ExecutesPragma os profile row s line (affected s e)
executes_pragma_at_once None profile row s line e is = ap (affected s) (sym (same_effect (pragma_effect profile row s line) e is)) ∙ of_pragma profile row s line
executes_pragma_at_once (Some tokens) profile row s line e is = absurd (no_immediate e is)

executes_at_once : (profile : Profile) (row : ℕ) (d : Option Directive) (s : State) (line : LogicalLine) (e : Effect)
    → immediate_effect profile row d s line ≡ Some e
    → ExecutesDirective profile row d s line (affected s e)
executes_at_once profile row (Some Null) s line e is = ap (affected s) (sym (same_effect (no_effect s) e is)) ∙ nothing_emitted s s.macros s.env None
executes_at_once profile row (Some Define) s line e is =
    let r = after_define profile s.macros (hash_place line.tokens) (operands line.tokens) in
    ap (affected s) (sym (same_effect (macros_effect s r) e is)) ∙ of_macros s r
executes_at_once profile row (Some Undef) s line e is =
    let r = after_undef profile s.macros (hash_place line.tokens) (operands line.tokens) in
    ap (affected s) (sym (same_effect (macros_effect s r) e is)) ∙ of_macros s r
executes_at_once profile row (Some Pragma) s line e is =
    executes_pragma_at_once (expanded_operands profile s.macros (operands line.tokens)) profile row s line e is
executes_at_once profile row (Some Unknown) s line e is =
    let f = named_fault 8 line.tokens in
    ap (affected s) (sym (same_effect (only_fault s f) e is)) ∙ nothing_emitted s s.macros s.env (Some f)
executes_at_once profile row d s line e is = absurd (no_immediate e is)

executes_expanding : (profile : Profile) (row : ℕ) (d : Option Directive) (s : State) (line : LogicalLine) (m : Progress) (tokens : List Token) (x : Expansion)
    → expanded_tokens profile d s line ≡ Some tokens
    → IsExpansion s.macros s.env s.meter tokens x
    → m ≡ affected (with_meter s x.meter) (expanding_effect d s row line x.fault x.tokens)
    → ExecutesDirective profile row d s line m
executes_expanding profile row (Some Line) s line m tokens x is expands gives = record {
  expanded = x;
  expands = subst (λ ts. IsExpansion s.macros s.env s.meter ts x) (sym (same_tokens (operands line.tokens) tokens is)) expands;
  is = gives ∙ of_line s row line x.fault (presumed x.tokens) x.meter;
}
executes_expanding profile row (Some Pragma) s line m tokens x is expands gives =
    let here : ExpandsPragma s line.tokens tokens m = record { expanded = x; expands = expands; is = gives ∙ of_expanded_pragma s line.tokens x.fault x.tokens x.meter } in
    subst (λ (os : Option (List Token)). ExecutesPragma os profile row s line m) (sym is) here
executes_expanding profile row d s line m tokens x is expands gives = absurd (no_tokens tokens is)

pub executes : (profile : Profile) (row : ℕ) (d : Option Directive) (s : State) (line : LogicalLine) (m : Progress) → HasEffect profile row d s line m → ExecutesDirective profile row d s line m
executes profile row d s line m (HasEffect.immediate {e = e} is gives) = subst (ExecutesDirective profile row d s line) (sym gives) (executes_at_once profile row d s line e is)
executes profile row d s line m (HasEffect.expanding x is expands gives) = executes_expanding profile row d s line m _ x is expands gives

-- the replacements in its operands
abbrev pub count_effect : {profile : Profile} {row : ℕ} {d : Option Directive} {s : State} {line : LogicalLine} {m : Progress} → HasEffect profile row d s line m → ℕ
count_effect (HasEffect.immediate is gives) = 0
count_effect (HasEffect.expanding x is expands gives) = count_expansion expands

same_pragma_count : (os : Option (List Token)) (profile : Profile) (row : ℕ) (s : State) (line : LogicalLine) (m : Progress)
    (is : expanded_operands profile s.macros (operands line.tokens) ≡ os) (g : ExecutesPragma os profile row s line m)
    → count_pragma os profile row s line m g ≡ count_effect (effect_of_pragma os profile row s line m is g)
unfolding effect_of_pragma
same_pragma_count None profile row s line m is g = refl
same_pragma_count (Some tokens) profile row s line m is g = refl

pub same_count : (profile : Profile) (row : ℕ) (d : Option Directive) (s : State) (line : LogicalLine) (m : Progress) (g : ExecutesDirective profile row d s line m)
    → count_control_by profile row d s line m g ≡ count_effect (effect_of profile row d s line m g)
unfolding effect_of
same_count profile row (Some Null) s line m g = refl
same_count profile row (Some Define) s line m g = refl
same_count profile row (Some Undef) s line m g = refl
same_count profile row (Some Line) s line m g = refl
same_count profile row (Some Pragma) s line m g = same_pragma_count (expanded_operands profile s.macros (operands line.tokens)) profile row s line m refl g
same_count profile row (Some Unknown) s line m g = refl
same_count profile row d s line m g = absurd g

-- ---- facts of effects

pragma_of_any_meter : (os : Option (List Token)) (profile : Profile) (row : ℕ) (s : State) (line : LogicalLine) (n : Meter) → immediate_pragma os profile row (with_meter s n) line ≡ immediate_pragma os profile row s line
pragma_of_any_meter None profile row s line n = refl
pragma_of_any_meter (Some tokens) profile row s line n = refl

-- An effect does not depend on the meter.
pub effect_of_any_meter : (profile : Profile) (row : ℕ) (d : Option Directive) (s : State) (line : LogicalLine) (n : Meter) → immediate_effect profile row d (with_meter s n) line ≡ immediate_effect profile row d s line
effect_of_any_meter profile row (Some Null) s line n = refl
effect_of_any_meter profile row (Some Define) s line n = refl
effect_of_any_meter profile row (Some Undef) s line n = refl
effect_of_any_meter profile row (Some Pragma) s line n = pragma_of_any_meter (expanded_operands profile s.macros (operands line.tokens)) profile row s line n
effect_of_any_meter profile row (Some Unknown) s line n = refl
effect_of_any_meter profile row d s line n = refl

line_of_any_meter : (s : State) (row : ℕ) (line : LogicalLine) (f : Option Fault) (p : Option Presumed) (n : Meter) → line_effect s row line f p ≡ line_effect (with_meter s n) row line f p
line_of_any_meter s row line (Some f) p n = refl
line_of_any_meter s row line None None n = refl
line_of_any_meter s row line None (Some p) n = refl

pub tokens_of_any_meter : (profile : Profile) (d : Option Directive) (s : State) (line : LogicalLine) (n : Meter) → expanded_tokens profile d (with_meter s n) line ≡ expanded_tokens profile d s line
tokens_of_any_meter profile (Some Line) s line n = refl
tokens_of_any_meter profile (Some Pragma) s line n = refl
tokens_of_any_meter profile d s line n = refl

pub expanding_of_any_meter : (d : Option Directive) (s : State) (row : ℕ) (line : LogicalLine) (f : Option Fault) (tokens : List Token) (n : Meter)
    → expanding_effect d s row line f tokens ≡ expanding_effect d (with_meter s n) row line f tokens
expanding_of_any_meter (Some Pragma) s row line (Some f) tokens n = refl
expanding_of_any_meter (Some Pragma) s row line None tokens n = refl
expanding_of_any_meter d s row line f tokens n = line_of_any_meter s row line f (presumed tokens) n

-- With a fault of the expansion a line has no other effect.
pub fault_is_effect : (d : Option Directive) (s : State) (row : ℕ) (line : LogicalLine) (f : Fault) (tokens : List Token) → expanding_effect d s row line (Some f) tokens ≡ only_fault s f
fault_is_effect (Some Pragma) s row line f tokens = refl
fault_is_effect d s row line f tokens = refl

-- A fault alone leaves the state as it is.
pub fault_affects : (s : State) (f : Fault) → affected s (only_fault s f) ≡ stopped s f
fault_affects s f = nothing_emitted s s.macros s.env (Some f)

pragma_has_effect : (profile : Profile) (row : ℕ) (s : State) (line : LogicalLine) (os : Option (List Token)) → expanded_operands profile s.macros (operands line.tokens) ≡ os
    → ((e : Effect) × (immediate_effect profile row (Some Pragma) s line ≡ Some e)) ⊎ ((tokens : List Token) × (expanded_tokens profile (Some Pragma) s line ≡ Some tokens))
pragma_has_effect profile row s line None is = inl (pragma_effect profile row s line, ap (λ os. immediate_pragma os profile row s line) is)
pragma_has_effect profile row s line (Some tokens) is = inr (tokens, is)

-- The lines with an effect are those of the class `Control`.
pub control_has_effect : (profile : Profile) (row : ℕ) (d : Directive) (s : State) (line : LogicalLine) → class_of d ≡ class.Control
    → ((e : Effect) × (immediate_effect profile row (Some d) s line ≡ Some e)) ⊎ ((tokens : List Token) × (expanded_tokens profile (Some d) s line ≡ Some tokens))
control_has_effect profile row Null s line is = inl (no_effect s, refl)
control_has_effect profile row Define s line is = inl (macros_effect s (after_define profile s.macros (hash_place line.tokens) (operands line.tokens)), refl)
control_has_effect profile row Undef s line is = inl (macros_effect s (after_undef profile s.macros (hash_place line.tokens) (operands line.tokens)), refl)
control_has_effect profile row Line s line is = inr (operands line.tokens, refl)
control_has_effect profile row Pragma s line is = pragma_has_effect profile row s line (expanded_operands profile s.macros (operands line.tokens)) refl
control_has_effect profile row Unknown s line is = inl (only_fault s (named_fault 8 line.tokens), refl)
control_has_effect profile row d s line is = absurd (cc)

immediate_class : (profile : Profile) (row : ℕ) (d : Option Directive) (s : State) (line : LogicalLine) (e : Effect) → immediate_effect profile row d s line ≡ Some e → class_by d ≡ Some class.Control
immediate_class profile row (Some Null) s line e is = refl
immediate_class profile row (Some Define) s line e is = refl
immediate_class profile row (Some Undef) s line e is = refl
immediate_class profile row (Some Pragma) s line e is = refl
immediate_class profile row (Some Unknown) s line e is = refl
immediate_class profile row d s line e is = absurd (no_immediate e is)

expanding_class : (profile : Profile) (d : Option Directive) (s : State) (line : LogicalLine) (tokens : List Token) → expanded_tokens profile d s line ≡ Some tokens → class_by d ≡ Some class.Control
expanding_class profile (Some Line) s line tokens is = refl
expanding_class profile (Some Pragma) s line tokens is = refl
expanding_class profile d s line tokens is = absurd (no_tokens tokens is)

effect_class : {profile : Profile} {row : ℕ} {d : Option Directive} {s : State} {line : LogicalLine} {m : Progress} → HasEffect profile row d s line m → class_by d ≡ Some class.Control
effect_class {profile} {row} {d} {s} {line} (HasEffect.immediate {e = e} is gives) = immediate_class profile row d s line e is
effect_class {profile} {row} {d} {s} {line} (HasEffect.expanding {tokens = tokens} x is expands gives) = expanding_class profile d s line tokens is

pub control_class : (profile : Profile) (row : ℕ) (d : Option Directive) (s : State) (line : LogicalLine) (m : Progress) → ExecutesDirective profile row d s line m → class_by d ≡ Some class.Control
control_class profile row d s line m g = effect_class (effect_of profile row d s line m g)

pragma_is_not_immediate : (os : Option (List Token)) (profile : Profile) (row : ℕ) (s : State) (line : LogicalLine) (tokens : List Token) (e : Effect)
    → os ≡ Some tokens
    → immediate_pragma os profile row s line ≡ Some e
    → ⊥
pragma_is_not_immediate None profile row s line tokens e is gives = no_tokens tokens is
pragma_is_not_immediate (Some ts) profile row s line tokens e is gives = no_immediate e gives

-- A line that expands tokens has no immediate effect.
pub expanding_is_not_immediate : (profile : Profile) (row : ℕ) (d : Option Directive) (s : State) (line : LogicalLine) (tokens : List Token) (e : Effect)
    → expanded_tokens profile d s line ≡ Some tokens
    → immediate_effect profile row d s line ≡ Some e
    → ⊥
expanding_is_not_immediate profile row (Some Line) s line tokens e is gives = no_immediate e gives
expanding_is_not_immediate profile row (Some Pragma) s line tokens e is gives =
    pragma_is_not_immediate (expanded_operands profile s.macros (operands line.tokens)) profile row s line tokens e is gives
expanding_is_not_immediate profile row d s line tokens e is gives = no_tokens tokens is

-- the fault is not 35, if there is one
abbrev pub IsOther : Option Fault → Type 0
IsOther None = Unit {0}
IsOther (Some f) = f.number ≢ 35

-- `#define` and `#undef` have faults 9 to 16.
macros_other : (s : State) (r : Result Macros Fault) → ((f : Fault) → r ≡ Err f → f.number ≤ 16) → IsOther (macros_effect s r).fault
macros_other s (Ok macros) h = tt
macros_other s (Err f) h = let most : f.number ≤ 16 = h f refl in λ e. absurd (omega arith)

immediate_pragma_other : (os : Option (List Token)) (profile : Profile) (row : ℕ) (s : State) (line : LogicalLine) (e : Effect) → immediate_pragma os profile row s line ≡ Some e → IsOther e.fault
immediate_pragma_other None profile row s line e is = subst (λ (z : Effect). IsOther z.fault) (same_effect (pragma_effect profile row s line) e is) tt
immediate_pragma_other (Some tokens) profile row s line e is = absurd (no_immediate e is)

immediate_effect_other : (profile : Profile) (row : ℕ) (d : Option Directive) (s : State) (line : LogicalLine) (e : Effect) → immediate_effect profile row d s line ≡ Some e → IsOther e.fault
immediate_effect_other profile row (Some Null) s line e is = subst (λ (z : Effect). IsOther z.fault) (same_effect (no_effect s) e is) tt
immediate_effect_other profile row (Some Define) s line e is =
    let r = after_define profile s.macros (hash_place line.tokens) (operands line.tokens) in
    subst (λ (z : Effect). IsOther z.fault) (same_effect (macros_effect s r) e is)
    (macros_other s r (define_number profile s.macros (hash_place line.tokens) (operands line.tokens)))
immediate_effect_other profile row (Some Undef) s line e is =
    let r = after_undef profile s.macros (hash_place line.tokens) (operands line.tokens) in
    subst (λ (z : Effect). IsOther z.fault) (same_effect (macros_effect s r) e is)
    (macros_other s r (undef_number profile s.macros (hash_place line.tokens) (operands line.tokens)))
immediate_effect_other profile row (Some Pragma) s line e is =
    immediate_pragma_other (expanded_operands profile s.macros (operands line.tokens)) profile row s line e is
immediate_effect_other profile row (Some Unknown) s line e is =
    subst (λ (z : Effect). IsOther z.fault) (same_effect (only_fault s (named_fault 8 line.tokens)) e is) (λ n. absurd (omega arith))
immediate_effect_other profile row d s line e is = absurd (no_immediate e is)

line_effect_other : (s : State) (row : ℕ) (r : LogicalLine) (o : Option Fault) (p : Option Presumed) → IsOther o → IsOther (line_effect s row r o p).fault
line_effect_other s row r (Some f) p h = h
line_effect_other s row r None None h = λ e. absurd (omega arith)
line_effect_other s row r None (Some p) h = tt

expanding_effect_other : (d : Option Directive) (s : State) (row : ℕ) (r : LogicalLine) (o : Option Fault) (tokens : List Token) → IsOther o → IsOther (expanding_effect d s row r o tokens).fault
expanding_effect_other (Some Pragma) s row r (Some f) tokens h = h
expanding_effect_other (Some Pragma) s row r None tokens h = tt
expanding_effect_other d s row r o tokens h = line_effect_other s row r o (presumed tokens) h

-- A line has a fault 35 only if the expansion of its operands has one.
pub effect_other : {profile : Profile} {row : ℕ} {d : Option Directive} {s : State} {line : LogicalLine} {m : Progress}
    → ((tokens : List Token) (x : Expansion) → IsExpansion s.macros s.env s.meter tokens x → IsOther x.fault)
    → HasEffect profile row d s line m
    → IsOther m.fault
effect_other {profile} {row} {d} {s} {line} expansions (HasEffect.immediate {e = e} is gives) = subst (λ (r : Progress). IsOther r.fault) (sym gives) (immediate_effect_other profile row d s line e is)
effect_other {row = row} {d = d} {s = s} {line = line} expansions (HasEffect.expanding {tokens = tokens} x is expands gives) =
    subst (λ (r : Progress). IsOther r.fault) (sym gives) (expanding_effect_other d s row line x.fault x.tokens (expansions tokens x expands))

-- ---- the name of an invocation that waits

by_table : (s : State) (t : Token) (r : Result Macros Fault) → UnchangedBy t s.macros r → Unchanged t s.macros (macros_effect s r).macros
by_table s t (Ok macros) h = h
by_table s t (Err f) h = refl

pragma_keeps : (os : Option (List Token)) (profile : Profile) (row : ℕ) (s : State) (line : LogicalLine) (e : Effect) (t : Token)
    → immediate_pragma os profile row s line ≡ Some e
    → is_refused t (Some Pragma) (operands line.tokens) ≡ false
    → Unchanged t s.macros e.macros
pragma_keeps None profile row s line e t is h =
    let pushed = pushed_by_push (name_to_push profile (operands line.tokens)) s.macros s.pushed in
    subst (λ (z : Effect). Unchanged t s.macros z.macros) (same_effect (pragma_effect profile row s line) e is)
    (pop_other profile t s.macros pushed (operands line.tokens) h)
pragma_keeps (Some tokens) profile row s line e t is h = absurd (no_immediate e is)

-- A line that isn't refused while an invocation waits leaves what its name is.
pub effect_keeps : (profile : Profile) (row : ℕ) (d : Option Directive) (s : State) (line : LogicalLine) (e : Effect) (t : Token)
    → immediate_effect profile row d s line ≡ Some e
    → is_refused t d (operands line.tokens) ≡ false
    → Unchanged t s.macros e.macros
effect_keeps profile row (Some Null) s line e t is h = subst (λ (z : Effect). Unchanged t s.macros z.macros) (same_effect (no_effect s) e is) refl
effect_keeps profile row (Some Define) s line e t is h =
    let r = after_define profile s.macros (hash_place line.tokens) (operands line.tokens) in
    subst (λ (z : Effect). Unchanged t s.macros z.macros) (same_effect (macros_effect s r) e is)
    (by_table s t r (define_other profile s.macros (hash_place line.tokens) (operands line.tokens) t h))
effect_keeps profile row (Some Undef) s line e t is h =
    let r = after_undef profile s.macros (hash_place line.tokens) (operands line.tokens) in
    subst (λ (z : Effect). Unchanged t s.macros z.macros) (same_effect (macros_effect s r) e is)
    (by_table s t r (undef_other profile s.macros (hash_place line.tokens) (operands line.tokens) t h))
effect_keeps profile row (Some Pragma) s line e t is h =
    pragma_keeps (expanded_operands profile s.macros (operands line.tokens)) profile row s line e t is h
effect_keeps profile row (Some Unknown) s line e t is h =
    subst (λ (z : Effect). Unchanged t s.macros z.macros) (same_effect (only_fault s (named_fault 8 line.tokens)) e is) refl
effect_keeps profile row d s line e t is h = absurd (no_immediate e is)

line_keeps : (s : State) (row : ℕ) (line : LogicalLine) (f : Option Fault) (p : Option Presumed) → s.macros ≡ (line_effect s row line f p).macros
line_keeps s row line (Some f) p = refl
line_keeps s row line None None = refl
line_keeps s row line None (Some p) = refl

-- A line that expands tokens changes no macro.
pub expanding_keeps : (d : Option Directive) (s : State) (row : ℕ) (line : LogicalLine) (f : Option Fault) (tokens : List Token) → s.macros ≡ (expanding_effect d s row line f tokens).macros
expanding_keeps (Some Pragma) s row line (Some f) tokens = refl
expanding_keeps (Some Pragma) s row line None tokens = refl
expanding_keeps d s row line f tokens = line_keeps s row line f (presumed tokens)

-- ---- classes of directives

pub other_is_control : (c : Class) → opens c ≡ false → ends c ≡ false → c ≢ class.Error → c ≢ class.Ignored → ((next : Bool) → c ≢ class.Includes next) → c ≡ class.Control
other_is_control (class.Opens q) o e error ignored include = absurd (cc)
other_is_control (class.Elifs q) o e error ignored include = absurd (cc)
other_is_control class.Else o e error ignored include = absurd (cc)
other_is_control class.Endif o e error ignored include = absurd (cc)
other_is_control (class.Includes next) o e error ignored include = absurd (include next refl)
other_is_control class.Error o e error ignored include = absurd (error refl)
other_is_control class.Ignored o e error ignored include = absurd (ignored refl)
other_is_control class.Control o e error ignored include = refl

pub other_looks : (c : Class) → c ≢ class.Error → c ≢ class.Ignored → checks_quotes (Some c) ≡ true
other_looks class.Error error ignored = absurd (error refl)
other_looks class.Ignored error ignored = absurd (ignored refl)
other_looks c error ignored = refl
