use Rattle.std.proofs.Common.{◌≡◌, ℕ, suc, ◌+◌, ◌-◌, ◌*◌, ◌/◌, length, refl, arith, lt-ltb, le-ltb}
use Rattle.pptext.specs.NameHash.{words, hash_after}
use Rattle.pptext.proofs.hashing.hash_after.Goals as goal

pub returns-then-len-lt8 : goal.returns-then-len-lt8
unfolding hash_after
returns-then-len-lt8 c = rw (c.product.ensures, c.short_word.ensures, lt-ltb (length c.args.bytes.now) 8 c.if-len-lt8.true)

pub loop-at-init : goal.loop-at-init
unfolding words
loop-at-init c = (refl, omega arith, refl)

pub loop-at-preserved : goal.loop-at-preserved
unfolding words
loop-at-preserved c =
    let at : ℕ = c.loop-at.at in
    let whole : at ≡ 8 * (at / 8) = omega (arith, c.loop-at.invariant.0) in
    let more : (at + 8) / 8 ≡ suc (at / 8) = omega arith in (
      omega arith,
      omega arith,
      rw (more, c.product-state.ensures, c.word.ensures, ← c.loop-at.invariant.2, ← whole),
    )

pub returns : goal.returns
unfolding hash_after
returns c =
    let n : ℕ = length c.args.bytes.now in
    let count : (n - 1) / 8 ≡ c.loop-at.at / 8 = omega (arith, c.loop-at.invariant.0, c.loop-at.invariant.1, c.loop-at-test.false) in
    rw (le-ltb n 8 c.if-len-lt8.false, count, ← c.loop-at.invariant.2, c.product-2.ensures, c.word-2.ensures)
