-- Replacement lists without `##`. Each token is a chain of its own (6.10.3.3).
use Rattle.std.specs.Prelude.{Bool, true, false, not, ◌&&◌, List, [], ◌∷◌, Option, Some, None, if◌then◌else◌}
use Rattle.std.specs.List.{list_any}
use Rattle.pptext.specs.declared.tokens.Token.{Token}
use Rattle.ppmacro.specs.HashOperators.{is_paste}
use Rattle.ppmacro.specs.declared.macros.MacroKind.{MacroKind}
use Rattle.ppmacro.specs.declared.macros.MacroKind.TheVariants.{ObjectLike}
use Rattle.ppmacro.specs.declared.macros.Macro.{Macro}
use Rattle.ppmacro.specs.declared.macros.Chain.{Chain}
use Rattle.ppmacro.specs.declared.macros.Operand.TheVariants.{Tok}

abbrev pub is_object_like : MacroKind → Bool
is_object_like ObjectLike = true
is_object_like _ = false

-- The replacement list of an object-like macro without `##`.
abbrev pub lone_tokens : Macro → Option (List Token)
lone_tokens d = if is_object_like d.kind && not (list_any is_paste d.body) then Some d.body else None

-- A token as a chain of its own.
abbrev pub lone_chain : Token → Chain
lone_chain t = record { space = t.space; operands = Tok t ∷ [] }
