-- What each directive is for (6.10): the one table of them all.
use Rattle.std.specs.Prelude.{Bool, true, false, Option, None, Some}
use Rattle.pptext.specs.declared.sources.Directive.{Directive}
use Rattle.pptext.specs.declared.sources.Directive.TheVariants.{If, Ifdef, Ifndef, Elif, Elifdef, Elifndef, Else, Endif, Include, IncludeNext, Error, Ignored}
use Rattle.pptext.specs.declared.directives.Question.{Question}
use Rattle.pptext.specs.declared.directives.Question.TheVariants.{Defined, Value}
use Rattle.pptext.specs.declared.directives.Class.{Class}
use Rattle.pptext.specs.declared.directives.Class.TheVariants as class

abbrev pub class_of : Directive → Class
class_of If = class.Opens Value
class_of Ifdef = class.Opens (Defined true)
class_of Ifndef = class.Opens (Defined false)
class_of Elif = class.Elifs Value
class_of Elifdef = class.Elifs (Defined true)
class_of Elifndef = class.Elifs (Defined false)
class_of Else = class.Else
class_of Endif = class.Endif
class_of Include = class.Includes false
class_of IncludeNext = class.Includes true
class_of Error = class.Error
class_of Ignored = class.Ignored
class_of d = class.Control

-- what the condition of a line asks, where it has one
abbrev pub question_in : Class → Option Question
question_in (class.Opens q) = Some q
question_in (class.Elifs q) = Some q
question_in c = None

abbrev pub question_of : Directive → Option Question
question_of d = question_in (class_of d)

-- of the directive of a line, where it is one
abbrev pub class_by : Option Directive → Option Class
class_by None = None
class_by (Some d) = Some (class_of d)

abbrev pub question_by : Option Directive → Option Question
question_by None = None
question_by (Some d) = question_of d

-- `#if`, `#ifdef`, `#ifndef`
abbrev pub opens : Class → Bool
opens (class.Opens q) = true
opens c = false

abbrev pub opens_section : Directive → Bool
opens_section d = opens (class_of d)

-- `#elif`, `#elifdef`, `#elifndef`: an elif-group begins
abbrev pub elifs : Class → Bool
elifs (class.Elifs q) = true
elifs c = false

abbrev pub begins_elif_group : Directive → Bool
begins_elif_group d = elifs (class_of d)

-- a branch or `#endif`: a group ends before the line
abbrev pub ends : Class → Bool
ends (class.Elifs q) = true
ends class.Else = true
ends class.Endif = true
ends c = false

abbrev pub ends_group : Directive → Bool
ends_group d = ends (class_of d)
