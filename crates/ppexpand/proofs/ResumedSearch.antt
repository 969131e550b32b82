-- The search for the matching `)`, resumed from an intermediate state.
use Rattle.std.proofs.Common.{◌≡◌, ℕ, zero, suc, true, List, [], ◌∷◌, ◌++◌, Option, Vec, Global, refl, sym, ap, ◌∙◌, append_assoc, append-nil}
use Rattle.ppmacro.specs.HideSetPool.{HideSetPool}
use Rattle.ppmacro.specs.Hiding.{Hiding}
use Rattle.ppmacro.specs.HideSets.{hiding, hidings, HasSets, AllKnown}
use Rattle.ppmacro.specs.Substituting.{ListsKnown}
use Rattle.ppmacro.specs.declared.hidden_token.Hidden.{Hidden}
use Rattle.ppexpand.specs.Arguments.{Gathered, Closed, UnmatchedQuote, Unclosed, with_token, with_argument, separates}
use Rattle.ppexpand.specs.code.ProgramValues.{given_in}

-- prepends the arguments `done`, and the tokens `prefix` of the next argument, to the result for the rest
abbrev pub resumed : List (List Hiding) → List Hiding → Gathered → Gathered
resumed done [] (Closed [] close following) = Closed done close following
resumed done (x ∷ xs) (Closed [] close following) = Closed (done ++ (x ∷ xs) ∷ []) close following
resumed done prefix (Closed (a ∷ as') close following) = Closed (done ++ (prefix ++ a) ∷ as') close following
resumed done prefix (UnmatchedQuote q) = UnmatchedQuote q
resumed done prefix Unclosed = Unclosed

pub resumed-token : (done : List (List Hiding)) (prefix : List Hiding) (t : Hiding) (g : Gathered) → resumed (done) (prefix ++ t ∷ []) g ≡ resumed done prefix (with_token t g)
resumed-token done [] t (Closed [] close following) = refl
resumed-token done (x ∷ xs) t (Closed [] close following) = refl
resumed-token done [] t (Closed (a ∷ as') close following) = refl
resumed-token done (x ∷ xs) t (Closed (a ∷ as') close following) = ap (λ ys. Closed (done ++ (x ∷ ys) ∷ as') close following) (append_assoc xs (t ∷ []) a)
resumed-token done [] t (UnmatchedQuote q) = refl
resumed-token done (x ∷ xs) t (UnmatchedQuote q) = refl
resumed-token done [] t Unclosed = refl
resumed-token done (x ∷ xs) t Unclosed = refl

pub resumed-argument : (done : List (List Hiding)) (prefix : List Hiding) (g : Gathered) → resumed (done ++ prefix ∷ []) [] g ≡ resumed done prefix (with_argument g)
resumed-argument done [] (Closed [] close following) = refl
resumed-argument done (x ∷ xs) (Closed [] close following) = ap (λ ys. Closed (done ++ (x ∷ ys) ∷ []) close following) (sym (append-nil xs))
resumed-argument done [] (Closed (a ∷ as') close following) = ap (λ ys. Closed ys close following) (append_assoc done ([] ∷ []) (a ∷ as'))
resumed-argument done (x ∷ xs) (Closed (a ∷ as') close following) =
    ap (λ ys. Closed ys close following) (append_assoc done ((x ∷ xs) ∷ []) (a ∷ as'))
    ∙ ap (λ ys. Closed (done ++ (x ∷ ys) ∷ (a ∷ as')) close following) (sym (append-nil xs))
resumed-argument done [] (UnmatchedQuote q) = refl
resumed-argument done (x ∷ xs) (UnmatchedQuote q) = refl
resumed-argument done [] Unclosed = refl
resumed-argument done (x ∷ xs) Unclosed = refl

-- a comma that separates arguments is outside inner parentheses
pub outermost : (depth : ℕ) (commas : Option ℕ) → separates depth commas ≡ true → depth ≡ 0
outermost zero commas e = refl
outermost (suc depth) commas e = absurd (cc)

pub hidings-push : (s : HideSetPool) (hs : List Hidden) (h : Hidden) → hidings s (hs ++ h ∷ []) ≡ hidings s hs ++ hiding s h ∷ []
hidings-push s [] h = refl
hidings-push s (g ∷ hs) h = ap (λ ts. hiding s g ∷ ts) (hidings-push s hs h)

pub given-push : (s : HideSetPool) (vs : List (Vec Hidden Global)) (v : Vec Hidden Global) → given_in s (vs ++ v ∷ []) ≡ given_in s vs ++ hidings s v.items ∷ []
given-push s [] v = refl
given-push s (w ∷ vs) v = ap (λ ts. hidings s w.items ∷ ts) (given-push s vs v)

pub known-push : {s : HideSetPool} (hs : List Hidden) (h : Hidden) → AllKnown s hs → HasSets s h → AllKnown s (hs ++ h ∷ [])
known-push [] h k known = record { each = (known, tt) }
known-push {s} (g ∷ hs) h k known = record { each = (k.each.0, (known-push {s = s} hs h (record { each = k.each.1 }) known).each) }

pub lists_known-push : {s : HideSetPool} (vs : List (Vec Hidden Global)) (v : Vec Hidden Global) → ListsKnown s vs → AllKnown s v.items → ListsKnown s (vs ++ v ∷ [])
lists_known-push [] v k known = record { each = (known, tt) }
lists_known-push (w ∷ vs) v k known = record { each = (k.each.0, (lists_known-push vs v (record { each = k.each.1 }) known).each) }
