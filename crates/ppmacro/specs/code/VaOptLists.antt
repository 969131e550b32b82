-- A replacement list with `__VA_OPT__` as the code keeps it, beside its tokens. Only contracts inside the crate and views use this.
use Rattle.std.specs.Prelude.{ℕ, ◌-◌, Bool, true, List, [], ◌∷◌, ◌++◌, map, Option, Some, None, Vec, slice_get}
use Rattle.std.specs.Global.{Global}
use Rattle.pptext.specs.declared.tokens.Token.{Token}
use Rattle.ppmacro.specs.VaOpt.{Separated}
use Rattle.ppmacro.specs.VaOptChains.{VaOptChains}
use Rattle.ppmacro.specs.Define.{misplaces_paste}
use Rattle.ppmacro.specs.declared.macros.Chain.{Chain}
use Rattle.ppmacro.specs.declared.kept_chains.KeptChain.{KeptChain}
use Rattle.ppmacro.specs.declared.va_opt.Position.{Position}
use Rattle.ppmacro.specs.declared.va_opt.Position.TheVariants.{Inside}
use Rattle.ppmacro.specs.declared.va_opt.SeparatedList.{SeparatedList}
use Rattle.ppmacro.specs.declared.va_opt_chains.VaOptForm.{VaOptForm}
use Rattle.ppmacro.specs.code.KeptChains.{chains_at}

abbrev pub depth_of : Position → ℕ
depth_of (Inside depth) = depth
depth_of _ = 0

-- A token before others, if there is one.
abbrev pub before : Option Token → List Token → List Token
before None ts = ts
before (Some t) ts = t ∷ ts

-- The tokens with these indices. An index that the list doesn't have gives none.
abbrev pub tokens_at : List Token → List ℕ → List Token
tokens_at body [] = []
tokens_at body (i ∷ is) = before (slice_get body i) (tokens_at body is)

abbrev pub separated_at : List Token → SeparatedList → Separated
separated_at body s = record { outside = tokens_at body s.outside.items; contents = map (λ c. tokens_at body c.items) s.contents.items }

-- Tokens before the first content.
abbrev pub put_all_first : List Token → List (List Token) → List (List Token)
put_all_first ts [] = []
put_all_first ts (c ∷ cs) = (ts ++ c) ∷ cs

-- The contents that follow. In a content its tokens so far belong to the first of them.
abbrev pub contents_from : Position → List Token → List (List Token) → List (List Token)
contents_from (Inside depth) current cs = put_all_first current cs
contents_from _ current cs = cs

-- What is separated so far, followed by the rest from this position on.
abbrev pub followed_by : List Token → Position → SeparatedList → Separated → Separated
followed_by body position s rest = record {
  outside = tokens_at body s.outside.items ++ rest.outside;
  contents = map (λ c. tokens_at body c.items) s.contents.items ++ contents_from position (tokens_at body s.current.items) rest.contents;
}

-- Whether `##` is misplaced in the rest of a list. `last`: the token before is `##`.
abbrev pub misplaces_paste_after : (last bare : Bool) → List Token → Bool
misplaces_paste_after true bare [] = true
misplaces_paste_after last bare ts = misplaces_paste bare ts

abbrev pub arguments_at : List Token → List (Vec KeptChain Global) → List (List Chain)
arguments_at body vs = map (λ v. chains_at body v.items) vs

abbrev pub form_va_opt_chains : List Token → VaOptForm → VaOptChains
form_va_opt_chains body f = record {
  variadic = f.parameters - 1;
  if_empty = chains_at body f.if_empty.items;
  if_filled = chains_at body f.if_filled.items;
  contents = arguments_at body f.contents.items;
}
