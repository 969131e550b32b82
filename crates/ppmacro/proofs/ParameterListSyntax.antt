-- A parameter list is read exactly if it has the syntax of one.
use Rattle.std.proofs.Common.{◌≡◌, ◌↔◌, ℕ, zero, suc, ◌<◌, Bool, true, false, ◌&&◌, List, [], ◌∷◌, ◌++◌, length, Option, Some, None}
use Rattle.std.proofs.Common.{codes, if◌then◌else◌, refl, sym, ap, ◌∙◌, subst, true≢false, arith, append_assoc}
use Rattle.std.specs.Option.{option_map}
use Rattle.std.specs.Str.{bytes_eq}
use Rattle.std.proofs.lemmas.Bool.{and_parts, and_right}
use Rattle.std.proofs.lemmas.Slice.Eq.{bytes_eq-Decides}
use Rattle.pptext.specs.declared.sources.Profile.{Profile}
use Rattle.pptext.specs.declared.tokens.Token.{Token}
use Rattle.pptext.specs.declared.tokens.Kind.{Kind}
use Rattle.pptext.specs.declared.tokens.Kind.TheVariants.{Ident, Number, CharConst, Str, Punct, Header, Other}
use Rattle.pptext.specs.Profiles.{is_gnu}
use Rattle.pptext.specs.Tokens.{is_identifier_kind, is_punctuator_kind, is_identifier, is_punct}
use Rattle.ppmacro.specs.Names.{Name}
use Rattle.ppmacro.specs.ParsedParameters.{ParsedParameters}
use Rattle.ppmacro.specs.declared.defining.parameter_lists.Ending.{Ending}
use Rattle.ppmacro.specs.declared.defining.parameter_lists.Ending.TheVariants.{NoEllipsis, Ellipsis, NamedEllipsis}
use Rattle.ppmacro.specs.Define.{close_parameters, with_name, after_parameter_name, parameters_from, read_parameter_list}
use Rattle.ppmacro.specs.Laws.{IdentifierList, one, more, Parameters, nothing, names, ellipsis, names_and_ellipsis, names_with_ellipsis, IsParameterList}

-- ---- an identifier is no punctuator, and one punctuator is not another

no_punctuator : (k : Kind) (b : Bool) → is_identifier_kind k ≡ true → (is_punctuator_kind k && b) ≡ false
no_punctuator Ident b e = refl
no_punctuator Number b e = absurd (true≢false (sym e))
no_punctuator CharConst b e = absurd (true≢false (sym e))
no_punctuator Str b e = absurd (true≢false (sym e))
no_punctuator Punct b e = absurd (true≢false (sym e))
no_punctuator Header b e = absurd (true≢false (sym e))
no_punctuator Other b e = absurd (true≢false (sym e))

pub no_punct : (text : List ℕ) (t : Token) → is_identifier t ≡ true → is_punct text t ≡ false
no_punct text t e = no_punctuator t.kind (bytes_eq t.text text) e

-- A token that is one punctuator is not a punctuator with another spelling.
pub other_punct : (text other : List ℕ) (t : Token) → bytes_eq text other ≡ false → is_punct text t ≡ true → is_punct other t ≡ false
other_punct text other t unlike e =
    let spelt : t.text ≡ text = (bytes_eq-Decides t.text text).0 ((and_parts _ _ e).1) in
    and_right (is_punctuator_kind t.kind) (bytes_eq t.text other) (ap (λ x. bytes_eq x other) spelt ∙ unlike)

-- ---- a list with the syntax is read

abbrev parsed : List Name → Ending → List Token → ParsedParameters
parsed ns v body = record { names = ns; ending = v; body = body }

at_close : (v : Ending) (close : Token) (body : List Token) → is_punct (codes ")") close ≡ true → close_parameters v (close ∷ body) ≡ Some (parsed [] v body)
at_close v close body e = rw e refl

at_end : (gnu : Bool) (close : Token) (body : List Token) → is_punct (codes ")") close ≡ true → parameters_from gnu true (close ∷ body) ≡ Some (parsed [] NoEllipsis body)
at_end gnu close body e =
    let bare : (gnu && is_punct (codes "...") close) ≡ false = and_right gnu (is_punct (codes "...") close) (other_punct (codes ")") (codes "...") close refl e) in
    rw (other_punct (codes ")") (codes ",") close refl e, bare) (at_close NoEllipsis close body e)

at_comma : (gnu : Bool) (comma : Token) (ts : List Token) → is_punct (codes ",") comma ≡ true → parameters_from gnu true (comma ∷ ts) ≡ parameters_from gnu false ts
at_comma gnu comma ts e = rw e refl

at_ellipsis : (gnu : Bool) (t close : Token) (body : List Token)
    → is_punct (codes "...") t ≡ true
    → is_punct (codes ")") close ≡ true
    → parameters_from gnu false (t ∷ (close ∷ body)) ≡ Some (parsed [] Ellipsis body)
at_ellipsis gnu t close body e closes = rw e (at_close Ellipsis close body closes)

at_named_ellipsis : (gnu : Bool) (t close : Token) (body : List Token)
    → gnu ≡ true
    → is_punct (codes "...") t ≡ true
    → is_punct (codes ")") close ≡ true
    → parameters_from gnu true (t ∷ (close ∷ body)) ≡ Some (parsed [] NamedEllipsis body)
at_named_ellipsis gnu t close body g e closes = rw (other_punct (codes "...") (codes ",") t refl e, g, e) (at_close NamedEllipsis close body closes)

at_identifier : (gnu : Bool) (t : Token) (ts : List Token) (h : ParsedParameters)
    → is_identifier t ≡ true
    → parameters_from gnu true ts ≡ Some h
    → parameters_from gnu false (t ∷ ts) ≡ Some (with_name t.text h)
at_identifier gnu t ts h e on = rw (no_punct (codes "...") t e, e) (ap (option_map (with_name t.text)) on)

behind_names : {ts : List Token} {ns : List Name} (gnu : Bool)
    → IdentifierList ts ns
    → (rest : List Token) (v : Ending) (body : List Token)
    → parameters_from gnu true rest ≡ Some (parsed [] v body)
    → parameters_from gnu false (ts ++ rest) ≡ Some (parsed ns v body)
behind_names gnu (one {t = t} e) rest v body on = at_identifier gnu t rest (parsed [] v body) e on
behind_names gnu (more {t = t} {comma = comma} {ts = ts} {names = ns} e is_comma l) rest v body on =
    at_identifier gnu t (comma ∷ (ts ++ rest)) (parsed ns v body) e (at_comma gnu comma (ts ++ rest) is_comma ∙ behind_names gnu l rest v body on)

-- A list that doesn't begin with `)` is read by `parameters_from`.
at_first : (p : Profile) (t : Token) (ts : List Token) → is_punct (codes ")") t ≡ false → read_parameter_list p (t ∷ ts) ≡ parameters_from (is_gnu p) false (t ∷ ts)
at_first p t ts e = rw e refl

named_first : {ts : List Token} {ns : List Name} (p : Profile) → IdentifierList ts ns → (rest : List Token) → read_parameter_list p (ts ++ rest) ≡ parameters_from (is_gnu p) false (ts ++ rest)
named_first p (one {t = t} e) rest = at_first p t rest (no_punct (codes ")") t e)
named_first p (more {t = t} {comma = comma} {ts = ts} e is_comma l) rest = at_first p t (comma ∷ (ts ++ rest)) (no_punct (codes ")") t e)

read : {inside : List Token} {ns : List Name} {v : Ending} (p : Profile)
    → Parameters p inside ns v
    → (close : Token) (body : List Token)
    → is_punct (codes ")") close ≡ true
    → read_parameter_list p (inside ++ close ∷ body) ≡ Some (parsed ns v body)
read p nothing close body e = rw e refl
read p (names l) close body e = named_first p l (close ∷ body) ∙ behind_names (is_gnu p) l (close ∷ body) NoEllipsis body (at_end (is_gnu p) close body e)
read p (ellipsis {t = t} d) close body e =
    at_first p t (close ∷ body) (other_punct (codes "...") (codes ")") t refl d) ∙ at_ellipsis (is_gnu p) t close body d e
read p (names_and_ellipsis ts comma t l c d) close body e =
    ap (read_parameter_list p) (append_assoc ts (comma ∷ (t ∷ [])) (close ∷ body))
    ∙ named_first p l (comma ∷ (t ∷ (close ∷ body)))
    ∙ behind_names (is_gnu p) l (comma ∷ (t ∷ (close ∷ body))) Ellipsis body (at_comma (is_gnu p) comma (t ∷ (close ∷ body)) c ∙ at_ellipsis (is_gnu p) t close body d e)
read p (names_with_ellipsis ts t g l d) close body e =
    ap (read_parameter_list p) (append_assoc ts (t ∷ []) (close ∷ body))
    ∙ named_first p l (t ∷ (close ∷ body))
    ∙ behind_names (is_gnu p) l (t ∷ (close ∷ body)) NamedEllipsis body (at_named_ellipsis (is_gnu p) t close body g d e)

-- ---- a list that is read has the syntax

unread : {h : ParsedParameters} → None ≡ Some h → ⊥
unread e = cc

-- The syntax of a list with at least one name or `...`.
data Some_parameters (gnu : Bool) : List Token → List Name → Ending → Type 0 where
  listed : {ts : List Token} {ns : List Name} → IdentifierList ts ns → Some_parameters gnu ts ns NoEllipsis
  open_list : {t : Token} → is_punct (codes "...") t ≡ true → Some_parameters gnu (t ∷ []) [] Ellipsis
  listed_open : (ts : List Token) (comma t : Token) {ns : List Name}
      → IdentifierList ts ns
      → is_punct (codes ",") comma ≡ true
      → is_punct (codes "...") t ≡ true
      → Some_parameters gnu (ts ++ comma ∷ (t ∷ [])) ns Ellipsis
  listed_named : (ts : List Token) (t : Token) {ns : List Name}
      → gnu ≡ true
      → IdentifierList ts ns
      → is_punct (codes "...") t ≡ true
      → Some_parameters gnu (ts ++ t ∷ []) ns NamedEllipsis

as_parameters : {ts : List Token} {ns : List Name} {v : Ending} (p : Profile) → Some_parameters (is_gnu p) ts ns v → Parameters p ts ns v
as_parameters p (listed l) = names l
as_parameters p (open_list d) = ellipsis d
as_parameters p (listed_open ts comma t l c d) = names_and_ellipsis ts comma t l c d
as_parameters p (listed_named ts t g l d) = names_with_ellipsis ts t g l d

name_before : {gnu : Bool} {ts : List Token} {ns : List Name} {v : Ending} (t comma : Token)
    → is_identifier t ≡ true
    → is_punct (codes ",") comma ≡ true
    → Some_parameters gnu ts ns v
    → Some_parameters gnu (t ∷ (comma ∷ ts)) (t.text ∷ ns) v
name_before t comma e c (listed l) = listed (more e c l)
name_before t comma e c (open_list {t = d} is) = listed_open (t ∷ []) comma d (one e) c is
name_before t comma e c (listed_open ts comma' d l c' is) = listed_open (t ∷ (comma ∷ ts)) comma' d (more e c l) c' is
name_before t comma e c (listed_named ts d g l is) = listed_named (t ∷ (comma ∷ ts)) d g (more e c l) is

record Form (gnu : Bool) (line : List Token) (h : ParsedParameters) : Type 0 where
  inside : List Token
  close : Token
  laid_out : line ≡ inside ++ close ∷ h.body
  closes : is_punct (codes ")") close ≡ true
  parameters : Some_parameters gnu inside h.names h.ending

record Shut (v : Ending) (line : List Token) (h : ParsedParameters) : Type 0 where
  close : Token
  body : List Token
  laid_out : line ≡ close ∷ body
  closes : is_punct (codes ")") close ≡ true
  is : parsed [] v body ≡ h

shut : (v : Ending) (ts : List Token) (h : ParsedParameters) → close_parameters v ts ≡ Some h → Shut v ts h
shut v [] h e = absurd (unread e)
shut v (t ∷ ts) h e = elim (is_punct (codes ")") t) as (λ b. is_punct (codes ")") t ≡ b → (if b then Some (parsed [] v ts) else None) ≡ Some h → Shut v (t ∷ ts) h) [
  | true ↦ λ closes e. record { close = t; body = ts; laid_out = refl; closes = closes; is = cc }
  | false ↦ λ _ e. absurd (unread e)
] refl e

with_name-inverse : (n : Name) (o : Option ParsedParameters) (h : ParsedParameters) → option_map (with_name n) o ≡ Some h → (g : ParsedParameters) × (o ≡ Some g) × (with_name n g ≡ h)
with_name-inverse n None h e = absurd (unread e)
with_name-inverse n (Some g) h e =
    let same : Some (with_name n g) ≡ Some h = e in
    (g, refl, cc)

abbrev Forms : Bool → ℕ → Type 0
Forms gnu n = (ts : List Token) (h : ParsedParameters) → length ts < n → parameters_from gnu false ts ≡ Some h → Form gnu ts h

-- The last name of a list, with or without `...` after it.
ended : (gnu : Bool) (t u : Token) (us : List Token) (g : ParsedParameters) → is_identifier t ≡ true → after_parameter_name gnu (u ∷ us) ≡ Some g → Form gnu (t ∷ (u ∷ us)) (with_name t.text g)
ended gnu t u us g e r = elim (gnu && is_punct (codes "...") u) as (λ b. (gnu && is_punct (codes "...") u) ≡ b
    → (if b then close_parameters NamedEllipsis us else close_parameters NoEllipsis (u ∷ us)) ≡ Some g
    → Form gnu (t ∷ (u ∷ us)) (with_name t.text g)) [
      | true ↦ λ d r.
          let both = and_parts gnu (is_punct (codes "...") u) d in
          let m : Shut NamedEllipsis us g = shut NamedEllipsis us g r in
          subst (λ x. Form gnu (t ∷ (u ∷ us)) (with_name t.text x)) m.is (record { inside = t ∷ (u ∷ []); close = m.close; laid_out = ap (λ xs. t ∷ (u ∷ xs)) m.laid_out; closes = m.closes; parameters = listed_named (t ∷ []) u both.0 (one e) both.1 })
      | false ↦ λ _ r.
          let m : Shut NoEllipsis (u ∷ us) g = shut NoEllipsis (u ∷ us) g r in
          subst (λ x. Form gnu (t ∷ (u ∷ us)) (with_name t.text x)) m.is (record { inside = t ∷ []; close = m.close; laid_out = ap (λ xs. t ∷ xs) m.laid_out; closes = m.closes; parameters = listed (one e) })
    ] refl r

named : (gnu : Bool) (t : Token) (ts : List Token) (g : ParsedParameters) → is_identifier t ≡ true → Forms gnu (length ts) → parameters_from gnu true ts ≡ Some g → Form gnu (t ∷ ts) (with_name t.text g)
named gnu t [] g e on r = absurd (unread r)
named gnu t (u ∷ us) g e on r = elim (is_punct (codes ",") u) as (λ b. is_punct (codes ",") u ≡ b
    → (if b then parameters_from gnu false us else after_parameter_name gnu (u ∷ us)) ≡ Some g
    → Form gnu (t ∷ (u ∷ us)) (with_name t.text g)) [
      | true ↦ λ c r.
          let m : Form gnu us g = on us g (omega arith) r in
          record { inside = t ∷ (u ∷ m.inside); close = m.close; laid_out = ap (λ xs. t ∷ (u ∷ xs)) m.laid_out; closes = m.closes; parameters = name_before t u e c m.parameters }
      | false ↦ λ _ r. ended gnu t u us g e r
    ] refl r

form_by : (gnu : Bool) (t : Token) (ts : List Token) (h : ParsedParameters) → Forms gnu (length ts) → parameters_from gnu false (t ∷ ts) ≡ Some h → Form gnu (t ∷ ts) h
form_by gnu t ts h on r = elim (is_punct (codes "...") t) as (λ b. is_punct (codes "...") t ≡ b
    → (if b then close_parameters Ellipsis ts else (if is_identifier t then option_map (with_name t.text) (parameters_from gnu true ts) else None)) ≡ Some h
    → Form gnu (t ∷ ts) h) [
      | true ↦ λ d r.
          let m : Shut Ellipsis ts h = shut Ellipsis ts h r in
          subst (λ x. Form gnu (t ∷ ts) x) m.is (record { inside = t ∷ []; close = m.close; laid_out = ap (λ xs. t ∷ xs) m.laid_out; closes = m.closes; parameters = open_list d })
      | false ↦ λ _ r. by_name r
    ] refl r
  where
    by_name : (if is_identifier t then option_map (with_name t.text) (parameters_from gnu true ts) else None) ≡ Some h → Form gnu (t ∷ ts) h
    by_name r = elim (is_identifier t) as (λ b. is_identifier t ≡ b → (if b then option_map (with_name t.text) (parameters_from gnu true ts) else None) ≡ Some h → Form gnu (t ∷ ts) h) [
      | true ↦ λ e r.
          let m = with_name-inverse t.text (parameters_from gnu true ts) h r in
          subst (λ x. Form gnu (t ∷ ts) x) m.2 (named gnu t ts m.0 e on m.1)
      | false ↦ λ _ r. absurd (unread r)
    ] refl r

form : (gnu : Bool) (n : ℕ) → Forms gnu n
form gnu zero ts h short r = absurd (omega arith)
form gnu (suc n) [] h short r = absurd (unread r)
form gnu (suc n) (t ∷ ts) h short r = form_by gnu t ts h (λ us g short' r'. form gnu n us g (omega arith) r') r

headed : (p : Profile) (line : List Token) (h : ParsedParameters) → read_parameter_list p line ≡ Some h → IsParameterList p line h
headed p [] h r = absurd (unread r)
headed p (t ∷ ts) h r = elim (is_punct (codes ")") t) as (λ b. is_punct (codes ")") t ≡ b
    → (if b then Some (parsed [] NoEllipsis ts) else parameters_from (is_gnu p) false (t ∷ ts)) ≡ Some h
    → IsParameterList p (t ∷ ts) h) [
      | true ↦ λ e r. subst (λ x. IsParameterList p (t ∷ ts) x) (bare r) (record { inside = []; close = t; laid_out = refl; closes = e; parameters = nothing })
      | false ↦ λ _ r.
          let m : Form (is_gnu p) (t ∷ ts) h = form (is_gnu p) (suc (length (t ∷ ts))) (t ∷ ts) h (omega arith) r in
          record { inside = m.inside; close = m.close; laid_out = m.laid_out; closes = m.closes; parameters = as_parameters p m.parameters }
    ] refl r
  where
    bare : Some (parsed [] NoEllipsis ts) ≡ Some h → parsed [] NoEllipsis ts ≡ h
    bare e = cc

pub heads : (p : Profile) (line : List Token) (h : ParsedParameters) → (read_parameter_list p line ≡ Some h) ↔ IsParameterList p line h
heads p line h = (headed p line h, λ m. ap (read_parameter_list p) m.laid_out ∙ read p m.parameters m.close h.body m.closes)
