use Rattle.std.proofs.Common.{rules, ◌≡◌, ℕ, Bool, true, false, if◌then◌else◌, ◌||◌, ◌==◌, List, [], ◌∷◌, refl, ap, sym, ◌∙◌}
use Rattle.std.specs.List.{list_any}
use Rattle.std.proofs.lemmas.Bool.{true≢false}
use Rattle.ppmacro.specs.Substitution.{escaped_literal}
use Rattle.ppexpand.proofs.file_name.push_name.Goals as goal

kept : (bs : List ℕ) (b : ℕ) (is_escaped : Bool) → (is_escaped || list_any (λ c. c == 34 || c == 92) bs) ≡ false → (list_any (λ c. c == 34 || c == 92) bs ≡ false → escaped_literal bs ≡ bs)
    → (if is_escaped then 92 ∷ (b ∷ escaped_literal bs) else b ∷ escaped_literal bs) ≡ b ∷ bs
kept bs b true none rest = absurd (true≢false none)
kept bs b false none rest = ap (λ cs. b ∷ cs) (rest none)

-- A text without `"` and `\` stays as it is.
unescaped : (bs : List ℕ) → list_any (λ b. b == 34 || b == 92) bs ≡ false → escaped_literal bs ≡ bs
unescaped [] none = refl
unescaped (b ∷ bs) none = kept bs b (b == 34 || b == 92) none (unescaped bs)

pub returns : goal.returns
returns c = let plain = unescaped c.args.name.now (sym c.needs_escape.ensures ∙ c.if-needs_escape.false) in rw plain (search rules)
