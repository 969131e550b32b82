-- Over the same files the opening of a file has one outcome, if the group of the file has one.
use Rattle.std.proofs.Common.{◌≡◌, ℕ, ◌<◌, ◌≤◌, Bool, true, false, List, [], Some, Result, Ok, Err, refl, sym, ap, ◌∙◌, subst, arith}
use Rattle.pptext.specs.declared.tokens.Place.{Place}
use Rattle.pptext.specs.declared.tokens.Fault.{Fault}
use Rattle.pptext.specs.Lines.{LogicalLine}
use Rattle.pptext.specs.Sources.{Reads}
use Rattle.pptext.specs.Tree.{GroupParts, Tree}
use Rattle.pptext.specs.Tokens.{fault}
use Rattle.ppexpand.specs.Budget.{is_exhausted}
use Rattle.ppshelf.specs.Content.{unreadable, readable}
use Rattle.ppshelf.specs.Files.{file_at}
use Rattle.ppshelf.specs.Names.{name_in}
use Rattle.ppunit.specs.Dependencies.{has_row}
use Rattle.ppunit.specs.States.{State, Context, Progress, running, stopped, with_dependency, entering, leaving, with_one_spent, Opening}
use Rattle.ppunit.specs.Directives.{at_end}
use Rattle.ppunit.specs.Group.{depth_limit, ExecutesGroup, OpensFile}
use Rattle.ppunit.proofs.LineUniqueness.{OneReading, OneTree}

module _ (readings : OneReading) (trees : OneTree) (context : Context) where
  pub at_deep : {depth row : ℕ} {how : Opening} {at : Place} {s : State} {m : Progress}
      → depth_limit < depth
      → OpensFile context depth at s row how m
      → stopped s (fault 32 at (name_in context.names row)) ≡ m
  at_deep deep (OpensFile.too_deep d) = refl
  at_deep deep (OpensFile.exhausted fits spent) = absurd (omega arith)
  at_deep deep (OpensFile.not_read_again fits some known) = absurd (omega arith)
  at_deep deep (OpensFile.not_readable fits some new is) = absurd (omega arith)
  at_deep deep (OpensFile.content_fault fits some new is reads) = absurd (omega arith)
  at_deep deep (OpensFile.read fits some new is reads tree here) = absurd (omega arith)

  -- A test has one result, for example whether the budget is exhausted.
  one_way : (b : Bool) → b ≡ true → b ≡ false → ⊥
  one_way b e f = let differs : true ≡ false = sym e ∙ f in absurd (cc)

  pub at_over : {depth row : ℕ} {how : Opening} {at : Place} {s : State} {m : Progress}
      → depth ≤ depth_limit
      → is_exhausted s.meter ≡ true
      → OpensFile context depth at s row how m
      → stopped s (fault 35 at []) ≡ m
  at_over fits e (OpensFile.too_deep d) = absurd (omega arith)
  at_over fits e (OpensFile.exhausted f spent) = refl
  at_over {s = s} fits e (OpensFile.not_read_again f some known) = absurd (one_way (is_exhausted s.meter) e some)
  at_over {s = s} fits e (OpensFile.not_readable f some new is) = absurd (one_way (is_exhausted s.meter) e some)
  at_over {s = s} fits e (OpensFile.content_fault f some new is reads) = absurd (one_way (is_exhausted s.meter) e some)
  at_over {s = s} fits e (OpensFile.read f some new is reads tree here) = absurd (one_way (is_exhausted s.meter) e some)

  pub at_known : {depth row : ℕ} {how : Opening} {at : Place} {s : State} {m : Progress}
      → depth ≤ depth_limit
      → is_exhausted s.meter ≡ false
      → has_row row s.once ≡ true
      → OpensFile context depth at s row how m
      → running (with_dependency (with_one_spent s) row) ≡ m
  at_known fits some e (OpensFile.too_deep d) = absurd (omega arith)
  at_known {s = s} fits some e (OpensFile.exhausted f spent) = absurd (one_way (is_exhausted s.meter) spent some)
  at_known fits some e (OpensFile.not_read_again f more known) = refl
  at_known {row = row} {s = s} fits some e (OpensFile.not_readable f more new is) = absurd (one_way (has_row row s.once) e new)
  at_known {row = row} {s = s} fits some e (OpensFile.content_fault f more new is reads) = absurd (one_way (has_row row s.once) e new)
  at_known {row = row} {s = s} fits some e (OpensFile.read f more new is reads tree here) = absurd (one_way (has_row row s.once) e new)

  pub at_unreadable : {depth row : ℕ} {how : Opening} {at : Place} {s : State} {m : Progress}
      → depth ≤ depth_limit
      → is_exhausted s.meter ≡ false
      → has_row row s.once ≡ false
      → file_at context.files row ≡ Some unreadable
      → OpensFile context depth at s row how m
      → stopped (with_dependency (with_one_spent s) row) (fault 6 at (name_in context.names row)) ≡ m
  at_unreadable fits some new e (OpensFile.too_deep d) = absurd (omega arith)
  at_unreadable {s = s} fits some new e (OpensFile.exhausted f spent) = absurd (one_way (is_exhausted s.meter) spent some)
  at_unreadable {row = row} {s = s} fits some new e (OpensFile.not_read_again f more known) = absurd (one_way (has_row row s.once) known new)
  at_unreadable fits some new e (OpensFile.not_readable f more n is) = refl
  at_unreadable fits some new e (OpensFile.content_fault {bytes = bytes} f more n is reads) =
      let differs : Some unreadable ≡ Some (readable bytes) = sym e ∙ is in absurd (cc)
  at_unreadable fits some new e (OpensFile.read {bytes = bytes} f more n is reads tree here) =
      let differs : Some unreadable ≡ Some (readable bytes) = sym e ∙ is in absurd (cc)

  same_reading : (row : ℕ) (b c : List ℕ) (x y : Result (List LogicalLine) Fault)
      → file_at context.files row ≡ Some (readable b)
      → Reads context.profile row b x
      → file_at context.files row ≡ Some (readable c)
      → Reads context.profile row c y
      → x ≡ y
  same_reading row b c x y e p is q =
      let both : Some (readable b) ≡ Some (readable c) = sym e ∙ is in
      let same : c ≡ b = cc in
      readings context.profile row b x y p (subst (λ z. Reads context.profile row z y) same q)

  pub data AfterReading (depth : ℕ) (at : Place) (s : State) (row : ℕ) (how : Opening) : Result (List LogicalLine) Fault → Progress → Type 0 where
    by_fault : {f : Fault} → AfterReading depth at s row how (Err f) (stopped (with_dependency (with_one_spent s) row) f)
    by_lines : {lines : List LogicalLine} {parts : GroupParts} {m : Progress}
        → Tree lines parts
        → ExecutesGroup context depth row (running (entering at (with_one_spent s) row how)) parts m
        → AfterReading depth at s row how (Ok lines) (leaving s how (at_end m))

  pub at_reading : {depth row : ℕ} {how : Opening} {at : Place} {s : State} {m : Progress} (bytes : List ℕ) (x : Result (List LogicalLine) Fault)
      → depth ≤ depth_limit
      → is_exhausted s.meter ≡ false
      → has_row row s.once ≡ false
      → file_at context.files row ≡ Some (readable bytes)
      → Reads context.profile row bytes x
      → OpensFile context depth at s row how m
      → AfterReading depth at s row how x m
  at_reading bytes x fits some new e p (OpensFile.too_deep d) = absurd (omega arith)
  at_reading {s = s} bytes x fits some new e p (OpensFile.exhausted f spent) = absurd (one_way (is_exhausted s.meter) spent some)
  at_reading {row = row} {s = s} bytes x fits some new e p (OpensFile.not_read_again f more known) = absurd (one_way (has_row row s.once) known new)
  at_reading bytes x fits some new e p (OpensFile.not_readable f more n is) =
      let differs : Some unreadable ≡ Some (readable bytes) = sym is ∙ e in absurd (cc)
  at_reading {depth = depth} {row = row} {how = how} {at = at} {s = s} bytes x fits some new e p (OpensFile.content_fault {bytes = c} {f = g} f more n is reads) =
      subst (λ z. AfterReading depth at s row how z (stopped (with_dependency (with_one_spent s) row) g)) (same_reading row c bytes (Err g) x is reads e p) by_fault
  at_reading {depth = depth} {row = row} {how = how} {at = at} {s = s} bytes x fits some new e p
      (OpensFile.read {bytes = c} {lines = lines} {m = m} f more n is reads tree here) =
      subst (λ z. AfterReading depth at s row how z (leaving s how (at_end m))) (same_reading row c bytes (Ok lines) x is reads e p) (by_lines tree here)

  pub after_fault : {depth row : ℕ} {how : Opening} {at : Place} {s : State} {f : Fault} {x : Result (List LogicalLine) Fault} {m : Progress}
      → Err f ≡ x
      → AfterReading depth at s row how x m
      → stopped (with_dependency (with_one_spent s) row) f ≡ m
  after_fault {row = row} {s = s} {f = f} e (by_fault {f = g}) = let same : f ≡ g = cc in ap (λ x. stopped (with_dependency (with_one_spent s) row) x) same
  after_fault e (by_lines tree here) = absurd (cc)

  abbrev pub AfterLines : ℕ → Place → State → ℕ → Opening → GroupParts → Progress → Type 0
  AfterLines depth at s row how parts m = (n : Progress) × (m ≡ leaving s how (at_end n)) × ExecutesGroup context depth row (running (entering at (with_one_spent s) row how)) parts n

  pub after_lines : {depth row : ℕ} {how : Opening} {at : Place} {s : State} {lines : List LogicalLine} {parts : GroupParts} {x : Result (List LogicalLine) Fault}
      {m : Progress}
      → Ok lines ≡ x
      → Tree lines parts
      → AfterReading depth at s row how x m
      → AfterLines depth at s row how parts m
  after_lines e tree by_fault = absurd (cc)
  after_lines {depth = depth} {row = row} {how = how} {at = at} {s = s} {lines = lines} {parts = parts} e tree (by_lines {lines = lines'} {parts = parts'} {m = n} tree' here) =
      let same : lines' ≡ lines = cc in
      (n, refl, subst (λ z. ExecutesGroup context depth row (running (entering at (with_one_spent s) row how)) z n) (trees lines parts' parts (subst (λ z. Tree z parts') same tree') tree) here)
