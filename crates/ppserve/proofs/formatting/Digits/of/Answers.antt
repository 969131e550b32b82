use Rattle.std.proofs.Common.{◌≡◌, ◌/◌, ◌%◌, arith, refl}
use Rattle.std.proofs.lemmas.Fmt.{decimal_digit}
use Rattle.ppserve.proofs.BufferPrefix.{decimal_two}
use Rattle.ppserve.proofs.formatting.Digits.of.Goals as goal
use Rattle.ppserve.proofs.formatting.Digits.of.Goals.{then-number-lt10, else-number-lt10}

pub returns : goal.returns
returns c = elim c.if-number-lt10.branch [
  | then-number-lt10 w ↦
      let ones : c.args.number % 10 ≡ c.args.number = omega (arith, w.if-number-lt10.true) in
      rw (w.first-is, decimal_digit c.args.number w.if-number-lt10.true, ones) refl
  | else-number-lt10 w ↦
      let tens : c.args.number % 100 / 10 ≡ c.args.number / 10 = omega (arith, c.requires) in
      rw (w.first-is, decimal_two c.args.number w.if-number-lt10.false c.requires, tens) refl
]
