-- Definitions in the form that expansion reads, and `#define` lines that are read once for all units.
use Rattle.std.specs.Prelude.{◌≡◌, ◌≤◌, ◌<◌, ◌==◌, ◌&&◌, not, ℕ, Bool, false, List, Option, Some, None, Ok, Err, IfSome, MatchResult, Box, Vec, length, map, drop, get_or}
use Rattle.std.specs.List.{list_any}
use Rattle.std.specs.Global.{Global}
use Rattle.std.specs.FinMap as table
use Rattle.pptext.specs.declared.tokens.Place.{Place}
use Rattle.pptext.specs.declared.tokens.Token.{Token}
use Rattle.pptext.specs.Lines.{LogicalLine}
use Rattle.pptext.specs.IndexedLines.{line_at}
use Rattle.pptext.specs.declared.sources.Profile.{Profile}
use Rattle.pptext.specs.declared.sources.Profile.TheVariants.{Later, Gnu}
use Rattle.ppmacro.specs.HashOperators.{is_paste}
use Rattle.ppmacro.specs.VaOptChains.{ListChains, Ordinary, WithVaOpt, list_chains}
use Rattle.ppmacro.specs.PasteFree.{is_object_like}
use Rattle.ppmacro.specs.Entries.{entries_at, entry_chain}
use Rattle.ppmacro.specs.PreExpansion.{expansion_order}
use Rattle.ppmacro.specs.Define.{check_define}
use Rattle.ppmacro.specs.DefineLines.{DefineLine, IsDefineLine}
use Rattle.ppmacro.specs.declared.pre_expansion.UsedParameters.{UsedParameters}
use Rattle.ppmacro.specs.declared.definition.Definition.{Definition}
use Rattle.ppmacro.specs.declared.definition.ListForm.{ListForm}
use Rattle.ppmacro.specs.declared.definition.ListForm.TheVariants.{Plain, Pasted, VaOpt}
use Rattle.ppmacro.specs.code.KeptChains.{chains_at}
use Rattle.ppmacro.specs.code.VaOptLists.{form_va_opt_chains}
use Rattle.ppmacro.specs.declared.define_lines.Defined.{Defined}
use Rattle.ppmacro.specs.declared.define_lines.ReadDefinition.{ReadDefinition}

-- Whether a token that names this parameter, if any, names parameter i.
abbrev pub is_use : ℕ → Option ℕ → Bool
is_use i None = false
is_use i (Some j) = i == j

-- These parameters are marked, and no others.
abbrev pub AreMarked : List Bool → List ℕ → Type 0
AreMarked marks used = (i : ℕ) → i < length marks → get_or marks i false ≡ list_any (λ j. i == j) used

-- The parameters in the order of their uses, which is kept only if it isn't their own order.
abbrev pub order_of_uses : List ℕ → Option (Vec ℕ Global) → List ℕ
order_of_uses by_parameter None = by_parameter
order_of_uses by_parameter (Some by_use) = by_use.items

abbrev pub uses_of : UsedParameters → List ℕ
uses_of u = order_of_uses u.by_parameter.items u.by_use

-- The chains of a replacement list in the form of a definition.
abbrev pub form_chains : List Token → ListForm → ListChains
form_chains body (Plain v) = Ordinary (map entry_chain (entries_at v.items body))
form_chains body (Pasted v) = Ordinary (chains_at body v.items)
form_chains body (VaOpt f) = WithVaOpt (form_va_opt_chains body f)

-- A definition says what expansion needs to know of this replacement list.
pub record IsPrepared (d : Definition) (body : List Token) : Type 0 where
  pub chains : form_chains body d.form ≡ list_chains (record { kind = d.kind; body = body })
  pub lone : d.lone ≡ (is_object_like d.kind && not (list_any is_paste body))
  pub by_parameter : d.used.by_parameter.items ≡ expansion_order Later (record { kind = d.kind; body = body })
  pub by_use : uses_of d.used ≡ expansion_order Gnu (record { kind = d.kind; body = body })

-- What is the definition of a line without a fault, as if its name had no other definition. The replacement list is the end of the line.
pub record IsDefinedBy (profile : Profile) (at : Place) (line : List Token) (d : Defined) : Type 0 where
  pub some : 0 < length line
  pub within : d.body_at ≤ length line
  pub defines : (t : Token) → check_define profile table.empty at line
      ≡ Ok (record { name = (get_or line 0 t).text; definition = record { kind = d.definition.kind; body = drop d.body_at line } })
  pub prepared : IsPrepared d.definition (drop d.body_at line)

-- What a line says by itself.
abbrev pub IsReadFrom : ReadDefinition → Place → List Token → Type 0
IsReadFrom r at line = MatchResult r.outcome (IsDefinedBy r.profile at line) (λ f. check_define r.profile table.empty at line ≡ Err f)

-- The lines of a file with what was read of each.
abbrev pub AreReadFrom : List LogicalLine → List (Option (Box ReadDefinition Global)) → Type 0
AreReadFrom lines reads = (length reads ≡ length lines)
    × ((i : ℕ) → i < length lines → IfSome (get_or reads i None) (λ r. (d : DefineLine) × IsDefineLine (line_at lines i) d × IsReadFrom r.value d.at d.tokens))
