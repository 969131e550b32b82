-- The include chain, which the marks among a unit's items say, is the include stack of the derivation of its value.
use Rattle.std.proofs.Common.{◌≡◌, ℕ, suc, ◌⊎◌, inl, inr, Bool, true, false, if◌then◌else◌, List, [], ◌∷◌, ◌++◌, map, length, Option, Some, None, Result, Ok, Err, refl, sym, ap}
use Rattle.std.proofs.Common.{◌∙◌, subst, append_assoc, append-nil}
use Rattle.pptext.specs.declared.tokens.Place.{Place}
use Rattle.pptext.specs.declared.tokens.Token.{Token}
use Rattle.pptext.specs.declared.tokens.Fault.{Fault}
use Rattle.pptext.specs.declared.sources.Profile.{Profile}
use Rattle.pptext.specs.declared.sources.Directive.{Directive}
use Rattle.pptext.specs.declared.sources.Directive.TheVariants.{Null, Define, Undef, Pragma, Unknown}
use Rattle.pptext.specs.Lines.{LogicalLine}
use Rattle.pptext.specs.Tree.{GroupParts, Branches, hash_place}
use Rattle.ppmacro.specs.Names.{Macros}
use Rattle.ppmacro.specs.Define.{after_define, after_undef}
use Rattle.ppexpand.specs.declared.env.Env.{Env}
use Rattle.ppunit.specs.declared.states.Resumption.{Resumption}
use Rattle.ppunit.specs.declared.units.Item.{Item}
use Rattle.ppunit.specs.declared.units.Item.TheVariants as item
use Rattle.ppunit.specs.declared.units.MarkSort.TheVariants as mark_sort
use Rattle.ppunit.specs.declared.units.FirstFile.{FirstFile}
use Rattle.ppunit.specs.declared.units.Unit.{Unit as UnitOfList}
use Rattle.ppunit.specs.declared.units.UnitOut.{UnitOut}
use Rattle.ppunit.specs.DirectiveLines.{operands, text_tokens, named_fault}
use Rattle.ppunit.specs.LineControl.{Presumed, presumed, renumbered}
use Rattle.ppunit.specs.States.{State, Context, Progress, running, stopped, mark, mark_in, named, Opening, with_dependency, with_one_spent, in_file, resumed_by, resumed, with_meter, file_context, in_file_context}
use Rattle.ppunit.specs.Directives.{EmitsText, ExecutesDirective, is_system_header, expanded_operands, or_fault, fault_at_end, at_end}
use Rattle.ppunit.specs.Group.{ExecutesGroup, ExecutesBranches, ExecutesControlLine, ExecutesInclude, OpensFile}
use Rattle.ppunit.specs.Dependencies.{with_row}
use Rattle.ppunit.specs.Unit.{Defines, unread, processed, OpensFirst, all_read, first_fault, first_read, before_first, main_name, Translates, definitions_fault}
use Rattle.ppunit.specs.Unit.{fault_before_main, translated, context_of_unit}
use Rattle.ppunit.specs.Chain.{leaves, open_places, without_main, chain}
use Rattle.ppunit.specs.IncludeStack.{open_in, stack_group, stack_branches, stack_control, stack_includes, stack_opening, stack_first, stack_defines, stack_main, stack_translates}
use Rattle.ppunit.specs.Laws.{ChainIsStack}
use Rattle.ppunit.specs.code.Effects.{Effect, affected, no_effect, macros_effect, only_fault, system_marks, pragma_effect, immediate_pragma, immediate_effect, line_effect, expanding_effect, HasEffect}
use Rattle.ppunit.proofs.DirectiveEffects.{effect_of, same_effect, no_immediate}
use Rattle.ppunit.proofs.KeptItems.{kept_true}

-- ---- pieces of the items

-- items that enter and leave files in pairs
pub record Balanced (items : List Item) : Type 0 where
  pub leaves_as : (open' : ℕ) (rest : List Item) → leaves (Some open') (items ++ rest) ≡ leaves (Some open') rest
  pub opens_none : (rest : List Item) → open_places (items ++ rest) ≡ open_places rest

-- items at whose end these files are open
pub record StopsIn (items : List Item) (stack : List Place) : Type 0 where
  pub never_left : (open' : ℕ) → leaves (Some open') items ≡ false
  pub opens : open_places items ≡ stack

abbrev pub Emits : List Item → Option Fault → List Place → Type 0
Emits items None stack = Balanced items × (stack ≡ [])
Emits items (Some f) stack = StopsIn items stack

after_balanced : (first more : List Item) (f : Option Fault) (stack : List Place) → Balanced first → Emits more f stack → Emits (first ++ more) f stack
after_balanced first more None stack b (c, none) = (
  record {
    leaves_as = λ n rest. ap (leaves (Some n)) (append_assoc first more rest) ∙ b.leaves_as n (more ++ rest) ∙ c.leaves_as n rest;
    opens_none = λ rest. ap open_places (append_assoc first more rest) ∙ b.opens_none (more ++ rest) ∙ c.opens_none rest;
  },
  none,
)
after_balanced first more (Some f) stack b c = record {
  never_left = λ n. b.leaves_as n more ∙ c.never_left n;
  opens = b.opens_none more ∙ c.opens;
}

stops_balanced : (items : List Item) → Balanced items → StopsIn items []
stops_balanced items b = record {
  never_left = λ n. ap (leaves (Some n)) (sym (append-nil items)) ∙ b.leaves_as n [];
  opens = ap open_places (sym (append-nil items)) ∙ b.opens_none [];
}

-- such items end where no file is open
ends_balanced : (items : List Item) (f : Option Fault) → Balanced items → Emits items f []
ends_balanced items None b = (b, refl)
ends_balanced items (Some f) b = stops_balanced items b

none_of : (b : Bool) → ◌≡◌ {A = List Place} (if b then [] else []) []
none_of true = refl
none_of false = refl

nothing : Balanced []
nothing = record { leaves_as = λ n rest. refl; opens_none = λ rest. refl }

token_first : (t : Token) (items : List Item) → Balanced items → Balanced (item.Token t ∷ items)
token_first t items b = record {
  leaves_as = λ n rest. b.leaves_as n rest;
  opens_none = λ rest. ap (λ l. l ++ open_places (items ++ rest)) (none_of (leaves (Some 0) (items ++ rest))) ∙ b.opens_none rest;
}

tokens_only : (ts : List Token) → Balanced (map item.Token ts)
tokens_only [] = nothing
tokens_only (t ∷ ts) = token_first t (map item.Token ts) (tokens_only ts)

pragma_first : (at : Place) (ts : List Token) (items : List Item) → Balanced items → Balanced (item.Pragma at ts ∷ items)
pragma_first at ts items b = record {
  leaves_as = λ n rest. b.leaves_as n rest;
  opens_none = λ rest. ap (λ l. l ++ open_places (items ++ rest)) (none_of (leaves (Some 0) (items ++ rest))) ∙ b.opens_none rest;
}

line_mark_in : (env : Env) (rows : List ℕ) (row last : ℕ) → Balanced (item.Mark (mark_in env rows mark_sort.Line row last) ∷ [])
line_mark_in env rows row last = record {
  leaves_as = λ n rest. refl;
  opens_none = λ rest. ap (λ l. l ++ open_places rest) (none_of (leaves (Some 0) rest));
}

line_mark : (s : State) (row last : ℕ) → Balanced (item.Mark (mark s mark_sort.Line row last) ∷ [])
line_mark s row last = line_mark_in s.env s.system_rows row last

-- the beginning of a file
abbrev Beginning : State → Place → ℕ → ℕ → List Item
Beginning s at row last = item.Mark (mark s (mark_sort.Enter at) row last) ∷ []

abbrev End : State → ℕ → ℕ → List Item
End s row last = item.Mark (mark s mark_sort.Leave row last) ∷ []

enclosed : (s t : State) (at : Place) (row last row' last' : ℕ) (inner : List Item) → Balanced inner → Balanced (Beginning s at row last ++ (inner ++ End t row' last'))
enclosed s t at row last row' last' inner b = record {
  leaves_as = λ n rest. ap (leaves (Some (suc n))) (append_assoc inner (End t row' last') rest) ∙ b.leaves_as (suc n) (End t row' last' ++ rest);
  opens_none = λ rest.
      let left : leaves (Some 0) ((inner ++ End t row' last') ++ rest) ≡ true =
      ap (leaves (Some 0)) (append_assoc inner (End t row' last') rest) ∙ b.leaves_as 0 (End t row' last' ++ rest) in
      ap (λ (z : Bool). (if z then [] else at ∷ []) ++ open_places ((inner ++ End t row' last') ++ rest)) left
      ∙ ap open_places (append_assoc inner (End t row' last') rest)
      ∙ b.opens_none (End t row' last' ++ rest)
      ∙ ap (λ l. l ++ open_places rest) (none_of (leaves (Some 0) rest));
}

left_open : (s : State) (at : Place) (row last : ℕ) (inner : List Item) (stack : List Place) → StopsIn inner stack → StopsIn (Beginning s at row last ++ inner) (at ∷ stack)
left_open s at row last inner stack stops = record {
  never_left = λ n. stops.never_left (suc n);
  opens = ap (λ (z : Bool). (if z then [] else at ∷ []) ++ open_places inner) (stops.never_left 0) ∙ ap (λ l. at ∷ l) stops.opens;
}

-- ---- lines

system_only : (b : Bool) (row : ℕ) (env : Env) (rows : List ℕ) (line : LogicalLine) → Balanced (system_marks b row env rows line)
system_only true row env rows line = line_mark_in env (with_row row rows) row line.number
system_only false row env rows line = nothing

pragma_only : (os : Option (List Token)) (profile : Profile) (row : ℕ) (s : State) (line : LogicalLine) (e : Effect) → immediate_pragma os profile row s line ≡ Some e → Balanced e.items
pragma_only None profile row s line e is =
    subst (λ (z : Effect). Balanced z.items) (same_effect (pragma_effect profile row s line) e is)
    (pragma_first (hash_place line.tokens) (operands line.tokens) (system_marks (is_system_header profile s.directory (operands line.tokens)) row s.env s.system_rows line)
    (system_only (is_system_header profile s.directory (operands line.tokens)) row s.env s.system_rows line))
pragma_only (Some tokens) profile row s line e is = absurd (no_immediate e is)

macros_only : (s : State) (r : Result Macros Fault) → Balanced (macros_effect s r).items
macros_only s (Ok macros) = nothing
macros_only s (Err f) = nothing

immediate_only : (profile : Profile) (row : ℕ) (d : Option Directive) (s : State) (line : LogicalLine) (e : Effect) → immediate_effect profile row d s line ≡ Some e → Balanced e.items
immediate_only profile row (Some Null) s line e is = subst (λ (z : Effect). Balanced z.items) (same_effect (no_effect s) e is) nothing
immediate_only profile row (Some Define) s line e is =
    let r = after_define profile s.macros (hash_place line.tokens) (operands line.tokens) in
    subst (λ (z : Effect). Balanced z.items) (same_effect (macros_effect s r) e is) (macros_only s r)
immediate_only profile row (Some Undef) s line e is =
    let r = after_undef profile s.macros (hash_place line.tokens) (operands line.tokens) in
    subst (λ (z : Effect). Balanced z.items) (same_effect (macros_effect s r) e is) (macros_only s r)
immediate_only profile row (Some Pragma) s line e is = pragma_only (expanded_operands profile s.macros (operands line.tokens)) profile row s line e is
immediate_only profile row (Some Unknown) s line e is = subst (λ (z : Effect). Balanced z.items) (same_effect (only_fault s (named_fault 8 line.tokens)) e is) nothing
immediate_only profile row d s line e is = absurd (no_immediate e is)

line_only : (s : State) (row : ℕ) (line : LogicalLine) (f : Option Fault) (p : Option Presumed) → Balanced (line_effect s row line f p).items
line_only s row line (Some f) p = nothing
line_only s row line None None = nothing
line_only s row line None (Some p) = line_mark (record s { env = (renumbered s row line p).env }) row line.number

expanding_only : (d : Option Directive) (s : State) (row : ℕ) (line : LogicalLine) (f : Option Fault) (tokens : List Token) → Balanced (expanding_effect d s row line f tokens).items
expanding_only (Some Pragma) s row line (Some f) tokens = nothing
expanding_only (Some Pragma) s row line None tokens = pragma_first _ _ [] nothing
expanding_only d s row line f tokens = line_only s row line f (presumed tokens)

-- ---- what phase 4 appends

-- after these items others are appended, if items are kept, and these files are open in the end
pub record Appends (keeps : Bool) (before : List Item) (end : Progress) (stack : List Place) : Type 0 where
  pub items : List Item
  pub keeps_on : keeps ≡ true → end.state.keeps ≡ true
  pub are : keeps ≡ true → end.state.items ≡ before ++ items
  pub emits : Emits items end.fault stack

appends_nothing : (keeps : Bool) (before : List Item) (end : Progress) → end.state.keeps ≡ keeps → end.state.items ≡ before → Appends keeps before end []
appends_nothing keeps before end same is = record {
  items = [];
  keeps_on = λ k. same ∙ k;
  are = λ k. is ∙ sym (append-nil before);
  emits = ends_balanced [] end.fault nothing;
}

appends_effect : (s : State) (e : Effect) (m : Progress) → m ≡ affected s e → Balanced e.items → Appends s.keeps s.items m []
appends_effect s e m gives b =
    subst (λ (z : Progress). Appends s.keeps s.items z []) (sym gives) (record {
      items = e.items;
      keeps_on = λ k. k;
      are = λ k. kept_true s.keeps s.items e.items k;
      emits = ends_balanced e.items e.fault b;
    })

directive_chain : (profile : Profile) (row : ℕ) (d : Option Directive) (s : State) (line : LogicalLine) (m : Progress) → ExecutesDirective profile row d s line m → Appends s.keeps s.items m []
directive_chain profile row d s line m does = by (effect_of profile row d s line m does)
  where
    by : HasEffect profile row d s line m → Appends s.keeps s.items m []
    by (HasEffect.immediate {e = e} is gives) = appends_effect s e m gives (immediate_only profile row d s line e is)
    by (HasEffect.expanding x is expands gives) = appends_effect (with_meter s x.meter) (expanding_effect d s row line x.fault x.tokens) m gives (expanding_only d s row line x.fault x.tokens)

text_chain : (profile : Profile) (s : State) (tokens : List Token) (m : Progress) → EmitsText profile s tokens m → Appends s.keeps s.items m []
text_chain profile s tokens m g =
    subst (λ (z : Progress). Appends s.keeps s.items z []) (sym g.is) (record {
      items = map item.Token g.expanded.tokens;
      keeps_on = λ k. k;
      are = λ k. kept_true s.keeps s.items (map item.Token g.expanded.tokens) k;
      emits = ends_balanced (map item.Token g.expanded.tokens) _ (tokens_only g.expanded.tokens);
    })

-- a group runs from here, or it had stopped before
abbrev Sequel : Progress → Progress → List Place → Type 0
Sequel m end stack = (m.fault ≡ None) ⊎ ((end ≡ m) × (stack ≡ []))

then_appends : {keeps : Bool} {before : List Item} {m end : Progress} {first more : List Place}
    → Appends keeps before m first
    → Sequel m end more
    → Appends m.state.keeps m.state.items end more
    → Appends keeps before end (first ++ more)
then_appends {keeps} {before} {m} {end} {first} {more} here (inl runs) rest =
    let b : Emits here.items None first = subst (λ (f : Option Fault). Emits here.items f first) runs here.emits in
    subst (λ (z : List Place). Appends keeps before end (z ++ more)) (sym b.1) (record {
      items = here.items ++ rest.items;
      keeps_on = λ k. rest.keeps_on (here.keeps_on k);
      are = λ k. rest.are (here.keeps_on k) ∙ ap (λ l. l ++ rest.items) (here.are k) ∙ append_assoc before here.items rest.items;
      emits = after_balanced here.items rest.items end.fault more b.0 rest.emits;
    })
then_appends {keeps} {before} {m} {end} {first} {more} here (inr (same, none)) rest =
    subst (λ (z : Progress). Appends keeps before z (first ++ more)) (sym same)
    (subst (λ (z : List Place). Appends keeps before m (first ++ z)) (sym none) (subst (λ (z : List Place). Appends keeps before m z) (sym (append-nil first)) here))

-- the end of a file
at_end_emits : (items : List Item) (f g : Option Fault) (stack : List Place) → Emits items f stack → Emits items (or_fault f g) stack
at_end_emits items None None stack e = e
at_end_emits items None (Some g) stack (b, none) = subst (λ (z : List Place). StopsIn items z) (sym none) (ends_balanced items (Some g) b)
at_end_emits items (Some f) g stack e = e

-- an included file, from its beginning to the line at which its includer goes on
file_chain : (keeps : Bool) (before : List Item) (s t u : State) (at : Place) (row : ℕ) (r : Resumption) (f : Option Fault) (inner : List Item) (stack : List Place)
    → u.keeps ≡ t.keeps
    → u.items ≡ t.items
    → (keeps ≡ true → t.keeps ≡ true)
    → (keeps ≡ true → t.items ≡ (before ++ Beginning s at row 0) ++ inner)
    → Emits inner f stack
    → Appends keeps before (resumed_by r u f) (open_in at f stack)
file_chain keeps before s t u at row r None inner stack same is stays are (b, none) = record {
  items = Beginning s at row 0 ++ (inner ++ End u r.row r.last);
  keeps_on = λ k. same ∙ stays k;
  are = λ k.
      kept_true u.keeps u.items (End u r.row r.last) (same ∙ stays k)
      ∙ ap (λ l. l ++ End u r.row r.last) (is ∙ are k ∙ append_assoc before (Beginning s at row 0) inner)
      ∙ append_assoc before (Beginning s at row 0 ++ inner) (End u r.row r.last);
  emits = (enclosed s u at row 0 r.row r.last inner b, refl);
}
file_chain keeps before s t u at row r (Some f) inner stack same is stays are stops = record {
  items = Beginning s at row 0 ++ inner;
  keeps_on = λ k. same ∙ stays k;
  are = λ k. is ∙ are k ∙ append_assoc before (Beginning s at row 0) inner;
  emits = left_open s at row 0 inner stack stops;
}

module _ (context : Context) where
  sequel : {depth row : ℕ} {m : Progress} {ps : GroupParts} {end : Progress} (d : ExecutesGroup context depth row m ps end) → Sequel m end (stack_group d)
  sequel ExecutesGroup.already_stopped = inr (refl, refl)
  sequel ExecutesGroup.no_parts = inl refl
  sequel (ExecutesGroup.text_lines gives rest) = inl refl
  sequel (ExecutesGroup.control here rest) = inl refl
  sequel (ExecutesGroup.taken decides here rest) = inl refl
  sequel (ExecutesGroup.skipped decides here rest) = inl refl
  sequel (ExecutesGroup.condition_fault decides) = inl refl

  mutual
    group_chain : {depth row : ℕ} {r : Progress} {ps : GroupParts} {end : Progress} (d : ExecutesGroup context depth row r ps end) → Appends r.state.keeps r.state.items end (stack_group d)
    group_chain (ExecutesGroup.already_stopped {s = s} {f = f}) = appends_nothing s.keeps s.items (stopped s f) refl refl
    group_chain (ExecutesGroup.no_parts {s = s}) = appends_nothing s.keeps s.items (running s) refl refl
    group_chain (ExecutesGroup.text_lines {s = s} {lines = lines} {m = m} gives rest) =
        then_appends (text_chain context.profile s (text_tokens lines) m gives) (sequel rest) (group_chain rest)
    group_chain (ExecutesGroup.control here rest) = then_appends (control_chain here) (sequel rest) (group_chain rest)
    group_chain (ExecutesGroup.taken decides here rest) = then_appends (group_chain here) (sequel rest) (group_chain rest)
    group_chain (ExecutesGroup.skipped decides here rest) = then_appends (branches_chain here) (sequel rest) (group_chain rest)
    group_chain (ExecutesGroup.condition_fault {s = s} {meter_after = meter_after} {f = f} decides) = appends_nothing s.keeps s.items _ refl refl

    branches_chain : {depth row : ℕ} {s : State} {bs : Branches} {m : Progress} (d : ExecutesBranches context depth row s bs m) → Appends s.keeps s.items m (stack_branches d)
    branches_chain (ExecutesBranches.no_branch_taken {s = s}) = appends_nothing s.keeps s.items (running s) refl refl
    branches_chain (ExecutesBranches.else_group is here) = group_chain here
    branches_chain (ExecutesBranches.branch_taken is decides here) = group_chain here
    branches_chain (ExecutesBranches.branch_skipped is decides rest) = branches_chain rest
    branches_chain (ExecutesBranches.branch_condition_fault {s = s} is decides) = appends_nothing s.keeps s.items _ refl refl

    control_chain : {depth row : ℕ} {s : State} {line : LogicalLine} {m : Progress} (d : ExecutesControlLine context depth row s line m) → Appends s.keeps s.items m (stack_control d)
    control_chain (ExecutesControlLine.error {s = s} is) = appends_nothing s.keeps s.items _ refl refl
    control_chain (ExecutesControlLine.ignored {s = s} is) = appends_nothing s.keeps s.items _ refl refl
    control_chain (ExecutesControlLine.quote_fault {s = s} is q) = appends_nothing s.keeps s.items _ refl refl
    control_chain (ExecutesControlLine.refused {s = s} is q waits) = appends_nothing s.keeps s.items _ refl refl
    control_chain {row = row} (ExecutesControlLine.executed {s = s} {line = line} {m = m} q free does) = directive_chain context.profile row line.directive s line m does
    control_chain (ExecutesControlLine.include is q free here) = includes_chain here

    includes_chain : {depth row : ℕ} {following : Option ℕ} {s : State} {line : LogicalLine} {m : Progress} (d : ExecutesInclude context depth row following s line m)
        → Appends s.keeps s.items m (stack_includes d)
    includes_chain (ExecutesInclude.operand_fault {s = s} names) = appends_nothing s.keeps s.items _ refl refl
    includes_chain (ExecutesInclude.missing {s = s} a names finds) = appends_nothing s.keeps s.items _ refl refl
    includes_chain {row = row} (ExecutesInclude.included {line = line} a found names finds opens) = opened_chain (record { row = row; last = line.number }) refl opens

    opened_chain : {depth row : ℕ} {how : Opening} {at : Place} {s : State} {m : Progress} (r : Resumption)
        → how.resumption ≡ Some r
        → (d : OpensFile context depth at s row how m)
        → Appends s.keeps s.items m (stack_opening d)
    opened_chain r goes_on (OpensFile.too_deep {s = s} deep) = appends_nothing s.keeps s.items _ refl refl
    opened_chain r goes_on (OpensFile.exhausted {s = s} fits spent) = appends_nothing s.keeps s.items _ refl refl
    opened_chain r goes_on (OpensFile.not_read_again {s = s} fits more once) = appends_nothing s.keeps s.items _ refl refl
    opened_chain r goes_on (OpensFile.not_readable {s = s} fits more once is) = appends_nothing s.keeps s.items _ refl refl
    opened_chain r goes_on (OpensFile.content_fault {s = s} fits more once is reads) = appends_nothing s.keeps s.items _ refl refl
    opened_chain {row = row} {how = how} {at = at} r goes_on (OpensFile.read {s = s} {m = m} fits more once is reads tree here) =
        let inner = group_chain here in
        let ended = at_end_emits inner.items m.fault (fault_at_end m.state.waiting) (stack_group here) inner.emits in
        let first : State = in_file (with_dependency (with_one_spent s) row) row how in
        subst (λ (z : Option Resumption). Appends s.keeps s.items (resumed z (record { state = in_file_context (file_context s) m.state; fault = (at_end m).fault }))
        (open_in at (at_end m).fault (stack_group here))) (sym goes_on)
        (file_chain s.keeps s.items first m.state (in_file_context (file_context s) m.state) at row r (at_end m).fault inner.items (stack_group here) refl refl
        (λ k. inner.keeps_on k) (λ k. inner.are k ∙ ap (λ l. l ++ inner.items) (kept_true s.keeps s.items (Beginning first at row 0) k)) ended)

  first_chain : {main number : ℕ} {s : State} {files : List FirstFile} {m : Progress} (d : OpensFirst context main number s files m)
      → Appends s.keeps s.items m (stack_first d)
  first_chain (all_read {s = s}) = appends_nothing s.keeps s.items (running s) refl refl
  first_chain {main} (first_fault opens) = opened_chain (record { row = main; last = 0 }) refl opens
  first_chain {main} (first_read {s = s} {m = m} opens rest) =
      let here = opened_chain (record { row = main; last = 0 }) refl opens in
      subst (λ (z : List Place). Appends s.keeps s.items m (z ++ stack_first rest)) here.emits.1 (then_appends here (inl refl) (first_chain rest))

  defines_chain : {defines : List (List ℕ)} {s : State} {m : Progress} (d : Defines context defines s m) → Appends s.keeps s.items m (stack_defines d)
  defines_chain (unread {s = s} reads) = appends_nothing s.keeps s.items _ refl refl
  defines_chain (processed {m = m} reads tree here) =
      let inner = group_chain here in
      record {
        items = inner.items;
        keeps_on = inner.keeps_on;
        are = inner.are;
        emits = at_end_emits inner.items m.fault (fault_at_end m.state.waiting) (stack_group here) inner.emits;
      }

  named_chain : (main : ℕ) (name : List ℕ) (files : List FirstFile) (s : State) → Appends s.keeps s.items (running (before_first main name files s)) []
  named_chain main name [] s = appends_nothing s.keeps s.items (running s) refl refl
  named_chain main name (file ∷ files) s = record {
    items = item.Mark (mark (named s name) mark_sort.Line main 0) ∷ [];
    keeps_on = λ k. k;
    are = λ k. kept_true s.keeps s.items (item.Mark (mark (named s name) mark_sort.Line main 0) ∷ []) k;
    emits = (line_mark (named s name) main 0, refl);
  }

  -- up to the unit's own file
  before_main_chain : (unit : UnitOfList) {s t : State} {m : Progress} (here : Defines context unit.defines.texts s (running t))
      (first : OpensFirst context unit.file (suc (length unit.defines.texts)) (before_first unit.file (main_name context.names unit) unit.first t) unit.first m)
      → Appends s.keeps s.items m (stack_first first)
  before_main_chain unit {s = s} {t = t} {m = m} here first =
      let a = defines_chain here in
      subst (λ (z : List Place). Appends s.keeps s.items m (z ++ stack_first first)) a.emits.1
      (then_appends a (inl refl) (then_appends (named_chain unit.file (main_name context.names unit) unit.first t) (inl refl) (first_chain first)))

  -- the unit's own file, after which no file goes on
  record IsMain (keeps : Bool) (before : List Item) (end : Progress) (stack : List Place) : Type 0 where
    items : List Item
    are : keeps ≡ true → end.state.items ≡ before ++ items
    opens : open_places items ≡ stack

  main_unread : (keeps : Bool) (before : List Item) (end : Progress) → end.state.items ≡ before → IsMain keeps before end []
  main_unread keeps before end is = record { items = []; are = λ k. is ∙ sym (append-nil before); opens = refl }

  stops_any : (items : List Item) (f : Option Fault) (stack : List Place) → Emits items f stack → StopsIn items stack
  stops_any items None stack (b, none) = subst (λ (z : List Place). StopsIn items z) (sym none) (stops_balanced items b)
  stops_any items (Some f) stack stops = stops

  main_chain : {depth row : ℕ} {how : Opening} {at : Place} {s : State} {m : Progress}
      → how.resumption ≡ None
      → (d : OpensFile context depth at s row how m)
      → IsMain s.keeps s.items m (stack_main d)
  main_chain ends (OpensFile.too_deep {s = s} deep) = main_unread s.keeps s.items _ refl
  main_chain ends (OpensFile.exhausted {s = s} fits spent) = main_unread s.keeps s.items _ refl
  main_chain ends (OpensFile.not_read_again {s = s} fits more once) = main_unread s.keeps s.items _ refl
  main_chain ends (OpensFile.not_readable {s = s} fits more once is) = main_unread s.keeps s.items _ refl
  main_chain ends (OpensFile.content_fault {s = s} fits more once is reads) = main_unread s.keeps s.items _ refl
  main_chain {row = row} {how = how} {at = at} ends (OpensFile.read {s = s} {m = m} fits more once is reads tree here) =
      let inner = group_chain here in
      let first : State = in_file (with_dependency (with_one_spent s) row) row how in
      subst (λ (z : Option Resumption). IsMain s.keeps s.items (resumed z (record { state = in_file_context (file_context s) m.state; fault = (at_end m).fault })) (at ∷ stack_group here))
      (sym ends) (record {
        items = Beginning first at row 0 ++ inner.items;
        are = λ k.
            inner.are k ∙ ap (λ l. l ++ inner.items) (kept_true s.keeps s.items (Beginning first at row 0) k) ∙ append_assoc s.items (Beginning first at row 0) inner.items;
        opens = (left_open first at row 0 inner.items (stack_group here) (stops_any inner.items m.fault (stack_group here) inner.emits)).opens;
      })

  translates_chain : {unit : UnitOfList} {s : State} {m : Progress} (d : Translates context unit s m) → s.keeps ≡ true → s.items ≡ [] → open_places m.state.items ≡ stack_translates d
  translates_chain (definitions_fault here) keeps empty =
      let a = defines_chain here in
      ap open_places (a.are keeps ∙ ap (λ l. l ++ a.items) empty) ∙ a.emits.opens
  translates_chain {unit} (fault_before_main here first) keeps empty =
      let a = before_main_chain unit here first in
      ap open_places (a.are keeps ∙ ap (λ l. l ++ a.items) empty) ∙ a.emits.opens
  translates_chain {unit} (translated here first opens) keeps empty =
      let a = before_main_chain unit here first in
      let main = main_chain refl opens in
      ap open_places (main.are (a.keeps_on keeps) ∙ ap (λ l. l ++ main.items) (a.are keeps ∙ ap (λ l. l ++ a.items) empty))
      ∙ a.emits.0.opens_none main.items
      ∙ main.opens

-- The law.
pub chain_is_stack : ChainIsStack
chain_is_stack names files setting unit out p =
    ap (λ (z : UnitOut). chain z.items) p.is_output ∙ ap without_main (translates_chain (context_of_unit names files setting unit) p.translates refl refl)
