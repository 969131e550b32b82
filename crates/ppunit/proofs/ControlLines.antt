-- A walk over a control line. The postconditions of the code imply its effect and the step to the next line.
use Rattle.std.proofs.Common.{◌≡◌, ℕ, ◌+◌, ◌<◌, true, false, List, ◌∷◌, length, drop, refl, sym, ap, ◌∙◌, subst, Option, None, Some, suc, Bool, Result, Ok, Err, if◌then◌else◌}
use Rattle.pptext.specs.declared.tokens.Fault.{Fault}
use Rattle.pptext.specs.declared.sources.Directive.{Directive}
use Rattle.pptext.specs.declared.sources.Directive.TheVariants.{Null}
use Rattle.pptext.specs.Lines.{LogicalLine}
use Rattle.pptext.specs.Tree.{GroupParts, Control, AreGroupParts, role, role_by, hash_place}
use Rattle.pptext.specs.Classes.{opens_section, ends_group, class_by}
use Rattle.ppunit.specs.States.{State, Context, running, Progress, stopped, with_meter, Opening}
use Rattle.ppunit.specs.Group.{ExecutesGroup, ExecutesControlLine, ExecutesInclude, OpensFile}
use Rattle.ppshelf.specs.Files.{Files, Extends}
use Rattle.ppunit.specs.code.Walk.{line_at, EnclosingSections, lines_to_end, AreEnclosingSections, HasPartsAt, Ends, Advances, Passes, PassesFrom, Leads, StepsTo, Steps, restored}
use Rattle.ppunit.proofs.FirstLineCases.{lay_control, control_role, First, text, control, opening, ending}
use Rattle.ppunit.proofs.FileWalk.{ends_front, ends_stop, stands_behind, AdvancesFrom, advances, first_at, run_result}
use Rattle.pptext.specs.declared.tokens.Place.{Place}
use Rattle.pptext.specs.declared.tokens.Token.{Token}
use Rattle.pptext.specs.declared.sources.Profile.{Profile}
use Rattle.ppunit.specs.Including.{IncludeName}
use Rattle.ppunit.specs.code.Opening.{Entered}
use Rattle.ppunit.specs.DirectiveLines.{operands}
use Rattle.ppunit.specs.Directives.{NamesHeader, FindsFile, refusal, or_fault, at_end, checks_quotes, ExecutesDirective}
use Rattle.ppunit.specs.code.Lines.{directed, line_refusal}
use Rattle.ppunit.specs.Quotes.{unmatched_quote}
use Rattle.ppunit.specs.ShownNames.{opening_of}
use Rattle.pptext.specs.declared.directives.Class.TheVariants as class
use Rattle.ppexpand.specs.declared.meter.Meter.{Meter}

-- ---- a walk over a control line

control_on : (context : Files → Context) (files : Files) (depth row : ℕ) (lines : List LogicalLine) (index : ℕ) (s t : State) (f : Option Fault)
    (r : LogicalLine) (qs : GroupParts) (k : EnclosingSections)
    → drop index lines ≡ r ∷ lines_to_end qs k
    → AreGroupParts qs
    → AreEnclosingSections k
    → ((more : Files) → Extends more files → ExecutesControlLine (context more) depth row s r (record { state = t; fault = f }))
    → AdvancesFrom context files depth row lines s t (run_result (index + 1) f) (Control r qs) k
control_on context files depth row lines index s t None r qs k there are outer controls =
    (qs, k, stands_behind lines index r qs k there are outer, λ more grows end rest. ends_front (context more) depth row (running s) (running t) (Control r qs) qs k end (λ o g. ExecutesGroup.control (controls more grows) g) rest)
control_on context files depth row lines index s t (Some f) r qs k there are outer controls =
    λ more grows. ends_stop (context more) depth row (running s) t f (Control r qs) k (ExecutesGroup.control (controls more grows) ExecutesGroup.already_stopped)

control_by : (context : Files → Context) (files : Files) (depth row : ℕ) (lines : List LogicalLine) (index : ℕ) (s t : State) (f : Option Fault)
    (ps : GroupParts) (k : EnclosingSections)
    → role (line_at lines index) ≡ role_by (Some Null)
    → First (line_at lines index) ps k
    → HasPartsAt lines index ps k
    → ((more : Files) → Extends more files → ExecutesControlLine (context more) depth row s (line_at lines index) (record { state = t; fault = f }))
    → AdvancesFrom context files depth row lines s t (run_result (index + 1) f) ps k
control_by context files depth row lines index s t f (Control x qs) k is (control same other) stands controls =
    let r = line_at lines index in
    let there : drop index lines ≡ r ∷ lines_to_end qs k = stands.rest ∙ lay_control x qs k ∙ ap (λ (z : LogicalLine). z ∷ lines_to_end qs k) same in
    subst (λ (z : LogicalLine). AdvancesFrom context files depth row lines s t (run_result (index + 1) f) (Control z qs) k) (sym same) (control_on context files depth row lines index s t f r qs k there stands.parts.1 stands.outer controls)
control_by context files depth row lines index s t f ps k is (text same) stands controls = absurd (cc)
control_by context files depth row lines index s t f ps k is (opening same other) stands controls = absurd (cc)
control_by context files depth row lines index s t f ps k is (ending differs) stands controls = absurd (differs.not_control is)

pub control_advances : (context : Files → Context) (files : Files) (depth row : ℕ) (lines : List LogicalLine) (index : ℕ) (s t : State)
    (f : Option Fault) (d : Directive)
    → index < length lines
    → (line_at lines index).directive ≡ Some d
    → opens_section d ≡ false
    → ends_group d ≡ false
    → ((more : Files) → Extends more files → ExecutesControlLine (context more) depth row s (line_at lines index) (record { state = t; fault = f }))
    → Advances context files depth row lines index s t (run_result (index + 1) f)
control_advances context files depth row lines index s t f d within is opens ends controls =
    advances context files depth row lines index s t (run_result (index + 1) f)
    (λ ps k stands. control_by context files depth row lines index s t f ps k (ap role_by is ∙ control_role d opens ends)
    (first_at lines index ps k within stands) stands controls)

passes_by : (depth row : ℕ) (lines : List LogicalLine) (index : ℕ) (s : State) (ps : GroupParts) (k : EnclosingSections)
    → role (line_at lines index) ≡ role_by (Some Null)
    → First (line_at lines index) ps k
    → HasPartsAt lines index ps k
    → PassesFrom depth row lines index s (index + 1) ps k
passes_by depth row lines index s (Control x qs) k is (control same other) stands =
    let r = line_at lines index in
    let there : drop index lines ≡ r ∷ lines_to_end qs k = stands.rest ∙ lay_control x qs k ∙ ap (λ (z : LogicalLine). z ∷ lines_to_end qs k) same in (
      qs,
      k,
      stands_behind lines index r qs k there stands.parts.1 stands.outer,
      λ context m end controls rest. subst
          (λ (z : LogicalLine). Ends context depth row (running s) (Control z qs) k end) (sym same)
          (ends_front context depth row (running s) m (Control r qs) qs k end (λ o g. ExecutesGroup.control controls g) rest),
    )
passes_by depth row lines index s ps k is (text same) stands = absurd (cc)
passes_by depth row lines index s ps k is (opening same other) stands = absurd (cc)
passes_by depth row lines index s ps k is (ending differs) stands = absurd (differs.not_control is)

pub passes : (depth row : ℕ) (lines : List LogicalLine) (index : ℕ) (s : State) (d : Directive)
    → index < length lines
    → (line_at lines index).directive ≡ Some d
    → opens_section d ≡ false
    → ends_group d ≡ false
    → Passes depth row lines index s (index + 1)
passes depth row lines index s d within is opens ends ps k stands =
    passes_by depth row lines index s ps k (ap role_by is ∙ control_role d opens ends) (first_at lines index ps k within stands) stands

-- ---- the postconditions of the code imply the effect of a control line and the step to the next line

-- ---- a control line

controls_at : (context : Context) (depth row : ℕ) (s : State) (m : Progress) (r : LogicalLine) (d : Directive) (tokens : List Token) (number : ℕ)
    → r.directive ≡ Some d
    → tokens ≡ r.tokens
    → number ≡ r.number
    → ExecutesControlLine context depth row s (directed d tokens number) m
    → ExecutesControlLine context depth row s r m
controls_at context depth row s m r d tokens number is same_tokens same_number here =
    subst (λ (z : Option Directive). ExecutesControlLine context depth row s (record { tokens = r.tokens; number = r.number; directive = z }) m) (sym is)
    (subst (λ (z : ℕ). ExecutesControlLine context depth row s (directed d r.tokens z) m) same_number
    (subst (λ (z : List Token). ExecutesControlLine context depth row s (directed d z number) m) same_tokens here))

pub other_control : (context : Context) (depth row : ℕ) (by : Profile) (s t : State) (d : Directive) (r : LogicalLine) (f : Option Fault)
    → by ≡ context.profile
    → r.directive ≡ Some d
    → unmatched_quote r.tokens ≡ None
    → refusal s.waiting (Some d) (operands r.tokens) ≡ None
    → ExecutesDirective by row (Some d) s r (record { state = t; fault = f })
    → ExecutesControlLine context depth row s r (record { state = t; fault = f })
other_control context depth row by s t d r f one is alone free does =
    let here = subst (λ (z : Profile). ExecutesDirective z row (Some d) s r (record { state = t; fault = f })) one does in
    let line = subst (λ (z : Option Directive). ExecutesDirective context.profile row z s r (record { state = t; fault = f })) (sym is) here in
    ExecutesControlLine.executed alone (ap (λ (z : Option Directive). refusal s.waiting z (operands r.tokens)) is ∙ free) line

-- A line with such a fault stops the unit.
pub refused_line : (context : Context) (depth row : ℕ) (s : State) (line : LogicalLine) (f : Fault)
    → checks_quotes (class_by line.directive) ≡ true
    → Some f ≡ line_refusal s line
    → ExecutesControlLine context depth row s line (stopped s f)
refused_line context depth row s line f checked refuses = by (unmatched_quote line.tokens) refl
  where
    by : (quote : Option Fault) → unmatched_quote line.tokens ≡ quote → ExecutesControlLine context depth row s line (stopped s f)
    by (Some g) quote =
        ExecutesControlLine.quote_fault checked
        (quote ∙ sym (refuses ∙ ap (λ (q : Option Fault). or_fault q (refusal s.waiting line.directive (operands line.tokens))) quote))
    by None quote =
        ExecutesControlLine.refused checked quote (sym (refuses ∙ ap (λ (q : Option Fault). or_fault q (refusal s.waiting line.directive (operands line.tokens))) quote))

-- neither of two faults
pub neither : (f g : Option Fault) → None ≡ or_fault f g → (f ≡ None) × (g ≡ None)
neither None g e = (refl, sym e)
neither (Some f) g e = absurd (cc)

-- ---- the step to the next line, or into a file

leads_on : (context : Files → Context) (files : Files) (depth : ℕ) (one other : Files → Progress → Type 0) (t : State)
    (r : Result (Option Entered) Fault)
    → ((more : Files) (m : Progress) → one more m → other more m)
    → Leads context files depth one t r
    → Leads context files depth other t r
leads_on context files depth one other t (Ok None) expansion_step leads = λ more grows. expansion_step more (running t) (leads more grows)
leads_on context files depth one other t (Ok (Some e)) expansion_step leads = record {
  fits = leads.fits;
  begins = leads.begins;
  few = leads.few;
  parts = leads.parts;
  tree = leads.tree;
  group = λ more grows m group. expansion_step more (restored e.outer e.resumption (at_end m)) (leads.group more grows m group);
}
leads_on context files depth one other t (Err f) expansion_step leads = λ more grows. expansion_step more (stopped t f) (leads more grows)

pub leads_included : (context : Files → Context) (files : Files) (depth deeper row : ℕ) (following : Option ℕ) (found : ℕ × ℕ) (at : Place)
    (line : LogicalLine) (s t : State) (meter_after : Meter) (a : IncludeName) (how : Opening) (r : Result (Option Entered) Fault)
    → deeper ≡ suc depth
    → at ≡ hash_place line.tokens
    → NamesHeader s line.tokens meter_after (Ok a)
    → ((more : Files) → FindsFile (context more) row following a (Some found))
    → ((more : Files) → how ≡ opening_of (context more) row s line a found)
    → Leads context files deeper (λ more m. OpensFile (context more) deeper at (with_meter s meter_after) found.0 how m) t r
    → Leads context files (suc depth) (λ more m. ExecutesInclude (context more) depth row following s line m) t r
leads_included context files depth deeper row following found at line s t meter_after a how r one place asks finds shows leads =
    let u = with_meter s meter_after in
    let here : Leads context files (suc depth) (λ more m. OpensFile (context more) (suc depth) (hash_place line.tokens) u found.0 how m) t r =
    subst (λ (z : Place). Leads context files (suc depth) (λ more m. OpensFile (context more) (suc depth) z u found.0 how m) t r) place
    (subst (λ (z : ℕ). Leads context files z (λ more m. OpensFile (context more) z at u found.0 how m) t r) one leads) in
    leads_on context files (suc depth) (λ more m. OpensFile (context more) (suc depth) (hash_place line.tokens) u found.0 how m)
    (λ more m. ExecutesInclude (context more) depth row following s line m) t r (λ more m opened.
    ExecutesInclude.included a found asks (finds more) (subst (λ (z : Opening). OpensFile (context more) (suc depth) (hash_place line.tokens) u found.0 z m) (shows more) opened)) here

pub leads_include : (context : Files → Context) (files : Files) (depth row : ℕ) (next : Bool) (directory : Option ℕ) (line : LogicalLine) (s t : State)
    (r : Result (Option Entered) Fault)
    → directory ≡ (if next then s.directory else None)
    → class_by line.directive ≡ Some (class.Includes next)
    → unmatched_quote line.tokens ≡ None
    → refusal s.waiting line.directive (operands line.tokens) ≡ None
    → Leads context files (suc depth) (λ more m. ExecutesInclude (context more) depth row directory s line m) t r
    → Leads context files (suc depth) (λ more m. ExecutesControlLine (context more) depth row s line m) t r
leads_include context files depth row next directory line s t r its is alone free leads =
    leads_on context files (suc depth) (λ more m. ExecutesInclude (context more) depth row directory s line m) (λ more m. ExecutesControlLine (context more) depth row s line m) t r
    (λ more m here. ExecutesControlLine.include is alone free (subst (λ (z : Option ℕ). ExecutesInclude (context more) depth row z s line m) its here)) leads

pub steps_line : (context : Files → Context) (files : Files) (depth row : ℕ) (lines : List LogicalLine) (index : ℕ) (s t : State)
    (next : ℕ) (r : ℕ × Option Entered)
    → r ≡ (next, None)
    → Advances context files depth row lines index s t (Ok next)
    → Steps context files depth row lines index s t (Ok r)
steps_line context files depth row lines index s t next r is advances =
    subst (λ (z : ℕ × Option Entered). Steps context files depth row lines index s t (Ok z)) (sym is) advances

module _ (context : Files → Context) (files : Files) (depth row : ℕ) (lines : List LogicalLine) (index : ℕ) (s t : State) (d : Directive)
    (tokens : List Token) (number : ℕ) (within : index < length lines) (is : (line_at lines index).directive ≡ Some d)
    (opens : opens_section d ≡ false) (ends : ends_group d ≡ false) (same_tokens : tokens ≡ (line_at lines index).tokens)
    (same_number : number ≡ (line_at lines index).number) where
  leads_there : (r : Result (Option Entered) Fault)
      → Leads context files (suc depth) (λ more m. ExecutesControlLine (context more) depth row s (directed d tokens number) m) t r
      → Leads context files (suc depth) (λ more m. ExecutesControlLine (context more) depth row s (line_at lines index) m) t r
  leads_there r leads =
      leads_on context files (suc depth) (λ more m. ExecutesControlLine (context more) depth row s (directed d tokens number) m)
      (λ more m. ExecutesControlLine (context more) depth row s (line_at lines index) m) t r
      (λ more m here. controls_at (context more) depth row s m (line_at lines index) d tokens number is same_tokens same_number here) leads

  steps_by : (entered : Option Entered)
      → Leads context files (suc depth) (λ more m. ExecutesControlLine (context more) depth row s (line_at lines index) m) t (Ok entered)
      → StepsTo context files depth row lines index s t (index + 1) entered
  steps_by None leads = control_advances context files depth row lines index s t None d within is opens ends leads
  steps_by (Some e) leads = (passes depth row lines index s d within is opens ends, leads)

  pub steps_control : (entered : Option Entered)
      → Leads context files (suc depth) (λ more m. ExecutesControlLine (context more) depth row s (directed d tokens number) m) t (Ok entered)
      → StepsTo context files depth row lines index s t (index + 1) entered
  steps_control entered leads = steps_by entered (leads_there (Ok entered) leads)

  pub stops_control : (f : Fault)
      → Leads context files (suc depth) (λ more m. ExecutesControlLine (context more) depth row s (directed d tokens number) m) t (Err f)
      → Advances context files depth row lines index s t (Err f)
  stops_control f leads = control_advances context files depth row lines index s t (Some f) d within is opens ends (leads_there (Err f) leads)
