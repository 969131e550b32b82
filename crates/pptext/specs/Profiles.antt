-- The rules of each profile.
use Rattle.std.specs.Prelude.{Bool, true, false}
use Rattle.pptext.specs.declared.sources.Profile.{Profile}
use Rattle.pptext.specs.declared.sources.Profile.TheVariants.{C11, Later, Gnu}

-- whether the profile has `#elifdef` and `#elifndef` of ISO/IEC 9899:2024, and `#pragma once`
abbrev pub has_later : Profile → Bool
has_later C11 = false
has_later Later = true
has_later Gnu = true

-- whether it has the rules of GNU C
abbrev pub is_gnu : Profile → Bool
is_gnu C11 = false
is_gnu Later = false
is_gnu Gnu = true
