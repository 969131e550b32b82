-- The directive of each line, by its name, and its role.
use Rattle.std.proofs.Common.{◌≡◌, ℕ, List, [], ◌∷◌, ◌++◌, Bool, true, false, if◌then◌else◌, refl, sym, ◌∙◌, subst, Ok}
use Rattle.std.specs.List.{AllByRecursion}
use Rattle.std.specs.Str.{bytes_eq}
use Rattle.pptext.specs.declared.sources.Directive.{Directive}
use Rattle.pptext.specs.declared.sources.Directive.TheVariants.{Unknown}
use Rattle.pptext.specs.declared.sources.Profile.{Profile}
use Rattle.pptext.specs.declared.sources.Profile.TheVariants.{C11, Later, Gnu}
use Rattle.pptext.specs.Lines.{directive_names, later_names, gnu_names, named_in, directive_named, LogicalLine, lines_ended, lines_after, lines_of, leaves_space, tokens_after, IsDirected}
use Rattle.pptext.specs.declared.tokens.Token.{Token}
use Rattle.pptext.specs.declared.characters.Char.{Char}
use Rattle.pptext.specs.Lexemes.{Lexeme, LexemeKind, NewLine, Blank, Comment, Spelled}
use Rattle.pptext.specs.Sources.{Reads}
use Rattle.pptext.specs.Tree.{Role, TextLine, ControlLine, Opens, Elses, Closes}
use Rattle.pptext.specs.declared.directives.Role as code
use Rattle.pptext.specs.declared.directives.Role.TheVariants as variant

-- ---- names of directives in two tables, one after the other

-- A name that is in the first table has the same directive in both tables together.
pub known_first : (names more : List (List ℕ × Directive)) (name : List ℕ) → (¬ (named_in names name ≡ Unknown)) → named_in (names ++ more) name ≡ named_in names name
known_first [] more name known = absurd (known refl)
known_first ((text, d) ∷ names) more name known = cases (bytes_eq name text) (known_first names more name) known
  where
    Kept : Directive → Directive → Type 0
    Kept d e = (¬ (d ≡ Unknown)) → e ≡ d

    cases : (b : Bool) → Kept (named_in names name) (named_in (names ++ more) name) → Kept (if b then d else named_in names name) (if b then d else named_in (names ++ more) name)
    cases true later = λ known. refl
    cases false later = later

-- Any other name has its directive from the second table.
pub known_later : (names more : List (List ℕ × Directive)) (name : List ℕ) → AllByRecursion (λ e. ¬ (e.1 ≡ Unknown)) names → named_in names name ≡ Unknown → named_in (names ++ more) name ≡ named_in more name
known_later [] more name each unknown = refl
known_later ((text, d) ∷ names) more name each unknown = cases (bytes_eq name text) (known_later names more name each.1) unknown
  where
    cases : (b : Bool)
        → (named_in names name ≡ Unknown → named_in (names ++ more) name ≡ named_in more name)
        → (if b then d else named_in names name) ≡ Unknown
        → (if b then d else named_in (names ++ more) name) ≡ named_in more name
    cases true later unknown = absurd (each.0 unknown)
    cases false later unknown = later unknown

pub all_known : AllByRecursion (λ e. ¬ (e.1 ≡ Unknown)) directive_names
all_known = ((λ e. cc), ((λ e. cc), ((λ e. cc), ((λ e. cc), ((λ e. cc), ((λ e. cc), ((λ e. cc), ((λ e. cc), ((λ e. cc), ((λ e. cc), ((λ e. cc), ((λ e. cc), tt))))))))))))

-- A directive name of C11 has the same directive in each profile.
pub known_named : (profile : Profile) (name : List ℕ) (d : Directive) → d ≡ named_in directive_names name → (¬ (d ≡ Unknown)) → d ≡ directive_named profile name
known_named C11 name d is known = is
known_named Later name d is known = is ∙ sym (known_first directive_names later_names name (λ e. known (is ∙ e)))
known_named Gnu name d is known = is ∙ sym (known_first directive_names (later_names ++ gnu_names) name (λ e. known (is ∙ e)))

-- Any other name is looked up among the names that the profile adds.
pub later_named : (name : List ℕ) (d e : Directive) → d ≡ named_in directive_names name → d ≡ Unknown → e ≡ named_in later_names name → e ≡ directive_named Later name
later_named name d e is unknown later = later ∙ sym (known_later directive_names later_names name all_known (sym is ∙ unknown))

pub gnu_named : (name : List ℕ) (d e : Directive) → d ≡ named_in directive_names name → d ≡ Unknown → e ≡ named_in (later_names ++ gnu_names) name → e ≡ directive_named Gnu name
gnu_named name d e is unknown later = later ∙ sym (known_later directive_names (later_names ++ gnu_names) name all_known (sym is ∙ unknown))

-- ---- the directive of each line of a text is the one that its tokens determine

module _ (profile : Profile) where
  directed_more : (tokens : List Token) (chars : List Char) (s : LexemeKind) (rest : List LogicalLine) → AllByRecursion (IsDirected profile) rest → AllByRecursion (IsDirected profile) (lines_ended profile tokens chars s ++ rest)
  directed_more tokens chars NewLine rest all = (refl, all)
  directed_more tokens chars Blank rest all = all
  directed_more tokens chars Comment rest all = all
  directed_more tokens chars (Spelled k) rest all = all

  directed_behind : (space : Bool) (tokens : List Token) (ps : List Lexeme) → AllByRecursion (IsDirected profile) (lines_after profile space tokens ps)
  directed_behind space tokens [] = tt
  directed_behind space tokens (p ∷ ps) =
      let after = tokens_after space tokens p.chars p.kind in
      directed_more tokens p.chars p.kind (lines_after profile (leaves_space p.kind) after ps) (directed_behind (leaves_space p.kind) after ps)

  pub pieces_are_directed : (ps : List Lexeme) → AllByRecursion (IsDirected profile) (lines_of profile ps)
  pieces_are_directed ps = directed_behind true [] ps

  -- Each line of a file that was read has the directive of its tokens.
  pub lines_are_directed : (file : ℕ) (bytes : List ℕ) (lines : List LogicalLine) → Reads profile file bytes (Ok lines) → AllByRecursion (IsDirected profile) lines
  lines_are_directed file bytes lines source = subst (AllByRecursion (IsDirected profile)) (sym source.lines_are) (pieces_are_directed source.lexemes)

-- ---- each role of the code represents a role of the specification; only `Opens` represents `Opens`

abbrev pub role_meant : code.Role → Role
role_meant variant.Text = TextLine
role_meant variant.Control = ControlLine
role_meant variant.Opens = Opens
role_meant (variant.Elses last) = Elses last
role_meant variant.Closes = Closes

pub opens_meant : (r : code.Role) → role_meant r ≡ Opens → r ≡ variant.Opens
opens_meant variant.Opens e = refl
opens_meant variant.Text e = absurd (cc)
opens_meant variant.Control e = absurd (cc)
opens_meant (variant.Elses last) e = absurd (cc)
opens_meant variant.Closes e = absurd (cc)
