-- The kind of a text that is one token (6.4). Theorem `decides_each_kind` proves that this definition of `pptext` is right.
pub use Rattle.pptext.specs.Kinds.{kind_of}
