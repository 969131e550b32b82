use Rattle.std.proofs.Common.{◌≡◌, ℕ, ◌<◌, Bool, true, false, ◌&&◌, List, [], ◌∷◌, length, Option, None, Some, IfNone, IfSome, get_or, codes, refl, sym, ap, ◌∙◌, arith}
use Rattle.std.proofs.lemmas.List.{get_or_read}
use Rattle.pptext.specs.declared.tokens.Token.{Token}
use Rattle.pptext.specs.Guard.{are_parentheses, guard_name, ident_if, is_not_defined, named}
use Rattle.pptext.proofs.grouping.guards.name_index.Goals as goal
use Rattle.pptext.proofs.grouping.guards.name_index.Goals.{then-is_not_defined, else-is_not_defined}

-- A line that does not have three, five or seven tokens names no guard.
no_name : (ts : List Token) → (¬ (length ts ≡ 3)) → (¬ (length ts ≡ 5)) → (¬ (length ts ≡ 7)) → guard_name ts ≡ None
no_name [] three five seven = refl
no_name (a ∷ []) three five seven = refl
no_name (a ∷ b ∷ []) three five seven = refl
no_name (a ∷ b ∷ d ∷ []) three five seven = absurd (three refl)
no_name (a ∷ b ∷ d ∷ e ∷ []) three five seven = refl
no_name (a ∷ b ∷ d ∷ e ∷ f ∷ []) three five seven = absurd (five refl)
no_name (a ∷ b ∷ d ∷ e ∷ f ∷ g ∷ []) three five seven = refl
no_name (a ∷ b ∷ d ∷ e ∷ f ∷ g ∷ h ∷ []) three five seven = absurd (seven refl)
no_name (a ∷ b ∷ d ∷ e ∷ f ∷ g ∷ h ∷ i ∷ ts) three five seven = refl

-- The guard name of a line of three, five or seven tokens.
of_three : (ts : List Token) (d x : Token) → length ts ≡ 3 → d ≡ get_or ts 1 d → x ≡ get_or ts 2 x → guard_name ts ≡ ident_if (named d (codes "ifndef")) x
of_three [] d x len is_d is_x = absurd (omega arith)
of_three (a ∷ []) d x len is_d is_x = absurd (omega arith)
of_three (a ∷ b ∷ []) d x len is_d is_x = absurd (omega arith)
of_three (a ∷ b ∷ e ∷ []) d x len is_d is_x = rw (is_d, is_x) refl
of_three (a ∷ b ∷ e ∷ f ∷ ts) d x len is_d is_x = absurd (omega arith)

of_five : (ts : List Token) (d n f x : Token) → length ts ≡ 5 → d ≡ get_or ts 1 d → n ≡ get_or ts 2 n → f ≡ get_or ts 3 f → x ≡ get_or ts 4 x
    → guard_name ts ≡ ident_if (is_not_defined d n f) x
of_five [] d n f x len is_d is_n is_f is_x = absurd (omega arith)
of_five (t1 ∷ []) d n f x len is_d is_n is_f is_x = absurd (omega arith)
of_five (t1 ∷ t2 ∷ []) d n f x len is_d is_n is_f is_x = absurd (omega arith)
of_five (t1 ∷ t2 ∷ t3 ∷ []) d n f x len is_d is_n is_f is_x = absurd (omega arith)
of_five (t1 ∷ t2 ∷ t3 ∷ t4 ∷ []) d n f x len is_d is_n is_f is_x = absurd (omega arith)
of_five (t1 ∷ t2 ∷ t3 ∷ t4 ∷ t5 ∷ []) d n f x len is_d is_n is_f is_x = rw (is_d, is_n, is_f, is_x) refl
of_five (t1 ∷ t2 ∷ t3 ∷ t4 ∷ t5 ∷ t6 ∷ ts) d n f x len is_d is_n is_f is_x = absurd (omega arith)

of_seven : (ts : List Token) (d n f l x r : Token) → length ts ≡ 7 → d ≡ get_or ts 1 d → n ≡ get_or ts 2 n → f ≡ get_or ts 3 f → l ≡ get_or ts 4 l → x ≡ get_or ts 5 x → r ≡ get_or ts 6 r
    → guard_name ts ≡ ident_if (is_not_defined d n f && are_parentheses l r) x
of_seven [] d n f l x r len is_d is_n is_f is_l is_x is_r = absurd (omega arith)
of_seven (t1 ∷ []) d n f l x r len is_d is_n is_f is_l is_x is_r = absurd (omega arith)
of_seven (t1 ∷ t2 ∷ []) d n f l x r len is_d is_n is_f is_l is_x is_r = absurd (omega arith)
of_seven (t1 ∷ t2 ∷ t3 ∷ []) d n f l x r len is_d is_n is_f is_l is_x is_r = absurd (omega arith)
of_seven (t1 ∷ t2 ∷ t3 ∷ t4 ∷ []) d n f l x r len is_d is_n is_f is_l is_x is_r = absurd (omega arith)
of_seven (t1 ∷ t2 ∷ t3 ∷ t4 ∷ t5 ∷ []) d n f l x r len is_d is_n is_f is_l is_x is_r = absurd (omega arith)
of_seven (t1 ∷ t2 ∷ t3 ∷ t4 ∷ t5 ∷ t6 ∷ []) d n f l x r len is_d is_n is_f is_l is_x is_r = absurd (omega arith)
of_seven (t1 ∷ t2 ∷ t3 ∷ t4 ∷ t5 ∷ t6 ∷ t7 ∷ []) d n f l x r len is_d is_n is_f is_l is_x is_r = rw (is_d, is_n, is_f, is_l, is_x, is_r) refl
of_seven (t1 ∷ t2 ∷ t3 ∷ t4 ∷ t5 ∷ t6 ∷ t7 ∷ t8 ∷ ts) d n f l x r len is_d is_n is_f is_l is_x is_r = absurd (omega arith)

-- An index that is found is that of the guard name; if none is found, the line names no guard.
found : (ts : List Token) (r : Option ℕ) (test : Bool) (x : Token) (at : ℕ) → at < length ts → x ≡ get_or ts at x → guard_name ts ≡ ident_if test x
    → IfSome r (λ i. (i ≡ at) × (ident_if test x ≡ Some x.text))
    → IfSome r (λ i. (i < length ts) × ((d : Token) → guard_name ts ≡ Some (get_or ts i d).text))
found ts None test x at lt is name some = tt
found ts (Some i) test x at lt is name some =
    (omega (arith, some.0), λ d. name ∙ some.1 ∙ ap (λ (t : Token). Some t.text) (get_or_read ts _ _ lt is d) ∙ ap (λ k. Some (get_or ts k d).text) (sym some.0))

missed : (ts : List Token) (r : Option ℕ) (test : Bool) (x : Token) → guard_name ts ≡ ident_if test x → IfNone r (ident_if test x ≡ None) → IfNone r (guard_name ts ≡ None)
missed ts None test x name none = name ∙ none
missed ts (Some i) test x name none = tt

pub returns-in_default-clause-none : goal.returns-in_default-clause-none
returns-in_default-clause-none c = no_name c.args.line.now (omega arith) (omega arith) (omega arith)

pub returns-in_default-2-clause-none : goal.returns-in_default-2-clause-none
returns-in_default-2-clause-none c = no_name c.args.line.now (omega arith) (omega arith) (omega arith)

pub returns-in_default-3-clause-none : goal.returns-in_default-3-clause-none
returns-in_default-3-clause-none c = no_name c.args.line.now (omega arith) (omega arith) (omega arith)

pub returns-in_default-4-clause-none : goal.returns-in_default-4-clause-none
returns-in_default-4-clause-none c = no_name c.args.line.now (omega arith) (omega arith) (omega arith)

pub returns-in-len3-clause-none : goal.returns-in-len3-clause-none
returns-in-len3-clause-none c =
    let name = of_three c.args.line.now c.name-item.result c.guard-item.result (omega arith) c.name-item.is c.guard-item.is in
    missed c.args.line.now c.ident_if.result c.is_named.result c.guard-item.result (name ∙ ap (λ b. ident_if b c.guard-item.result) (sym c.is_named.ensures)) c.ident_if.ensures.none

pub returns-in-len3-clause-some : goal.returns-in-len3-clause-some
returns-in-len3-clause-some c =
    let name = of_three c.args.line.now c.name-item.result c.guard-item.result (omega arith) c.name-item.is c.guard-item.is in
    found c.args.line.now c.ident_if.result c.is_named.result c.guard-item.result 2 (omega arith) c.guard-item.is (name ∙ ap (λ b. ident_if b c.guard-item.result) (sym c.is_named.ensures)) c.ident_if.ensures.some

pub returns-in-len5-clause-none : goal.returns-in-len5-clause-none
returns-in-len5-clause-none c =
    let x = c.guard-item-then-line-lt6 in
    let name = of_five c.args.line.now c.name-item-then-line-lt6.result c.not-item.result c.defined-item.result x.result (omega arith) c.name-item-then-line-lt6.is c.not-item.is c.defined-item.is x.is in
    missed c.args.line.now c.ident_if-in-len5.result c.is_not_defined.result x.result (name ∙ ap (λ b. ident_if b x.result) (sym c.is_not_defined.ensures)) c.ident_if-in-len5.ensures.none

pub returns-in-len5-clause-some : goal.returns-in-len5-clause-some
returns-in-len5-clause-some c =
    let x = c.guard-item-then-line-lt6 in
    let name = of_five c.args.line.now c.name-item-then-line-lt6.result c.not-item.result c.defined-item.result x.result (omega arith) c.name-item-then-line-lt6.is c.not-item.is c.defined-item.is x.is in
    found c.args.line.now c.ident_if-in-len5.result c.is_not_defined.result x.result 4 (omega arith) x.is (name ∙ ap (λ b. ident_if b x.result) (sym c.is_not_defined.ensures)) c.ident_if-in-len5.ensures.some

-- The test is `if ! defined` and, if that matches, the parentheses.
both : (a b test first second : Bool) → first ≡ a → first ≡ true → second ≡ b → test ≡ second → test ≡ (a && b)
both a b test first second is holds is_second is_test = is_test ∙ is_second ∙ ap (λ z. z && b) (sym (sym is ∙ holds))

neither : (a b test first : Bool) → first ≡ a → first ≡ false → test ≡ first → test ≡ (a && b)
neither a b test first is fails is_test = is_test ∙ fails ∙ ap (λ z. z && b) (sym (sym is ∙ fails))

pub returns-after-is_not_defined-clause-none : goal.returns-after-is_not_defined-clause-none
returns-after-is_not_defined-clause-none c =
    let d = c.name-item-then-line-lt8 in
    let n = c.not-item-then-line-lt8 in
    let f = c.defined-item-then-line-lt8 in
    let x = c.guard-item-then-line-lt8 in
    let defined = is_not_defined d.result n.result f.result in
    let enclosed = are_parentheses c.left-item.result c.right-item.result in
    let test : c.if-is_not_defined.parenthesized ≡ (defined && enclosed) = elim c.if-is_not_defined.branch [
      | then-is_not_defined w ↦ both defined enclosed c.if-is_not_defined.parenthesized c.is_not_defined-in-len7.result w.are_parentheses-parenthesized.result
          c.is_not_defined-in-len7.ensures w.if-is_not_defined.true w.are_parentheses-parenthesized.ensures w.parenthesized-is
      | else-is_not_defined w ↦ neither defined enclosed c.if-is_not_defined.parenthesized c.is_not_defined-in-len7.result c.is_not_defined-in-len7.ensures w.if-is_not_defined.false w.parenthesized-is
    ] in
    let name = of_seven c.args.line.now d.result n.result f.result c.left-item.result x.result c.right-item.result (omega arith) d.is n.is f.is c.left-item.is x.is c.right-item.is in
    missed c.args.line.now c.ident_if-in-len7.result c.if-is_not_defined.parenthesized x.result (name ∙ ap (λ b. ident_if b x.result) (sym test)) c.ident_if-in-len7.ensures.none

pub returns-after-is_not_defined-clause-some : goal.returns-after-is_not_defined-clause-some
returns-after-is_not_defined-clause-some c =
    let d = c.name-item-then-line-lt8 in
    let n = c.not-item-then-line-lt8 in
    let f = c.defined-item-then-line-lt8 in
    let x = c.guard-item-then-line-lt8 in
    let defined = is_not_defined d.result n.result f.result in
    let enclosed = are_parentheses c.left-item.result c.right-item.result in
    let test : c.if-is_not_defined.parenthesized ≡ (defined && enclosed) = elim c.if-is_not_defined.branch [
      | then-is_not_defined w ↦ both defined enclosed c.if-is_not_defined.parenthesized c.is_not_defined-in-len7.result w.are_parentheses-parenthesized.result
          c.is_not_defined-in-len7.ensures w.if-is_not_defined.true w.are_parentheses-parenthesized.ensures w.parenthesized-is
      | else-is_not_defined w ↦ neither defined enclosed c.if-is_not_defined.parenthesized c.is_not_defined-in-len7.result c.is_not_defined-in-len7.ensures w.if-is_not_defined.false w.parenthesized-is
    ] in
    let name = of_seven c.args.line.now d.result n.result f.result c.left-item.result x.result c.right-item.result (omega arith) d.is n.is f.is c.left-item.is x.is c.right-item.is in
    found c.args.line.now c.ident_if-in-len7.result c.if-is_not_defined.parenthesized x.result 5 (omega arith) x.is (name ∙ ap (λ b. ident_if b x.result) (sym test)) c.ident_if-in-len7.ensures.some
