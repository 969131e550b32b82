-- Sets of numbers as nodes of a trie of words. A word has 64 members: the number n is bit n % 64 of the word n / 64. Only
-- contracts of private functions and the view of private fields use them.
use Rattle.std.specs.Prelude.{◌≡◌, ℕ, zero, suc, ◌<◌, ◌≤◌, ◌/◌, ◌%◌, ◌^◌, Bool, true, nat_eq, List, [], ◌∷◌, ◌++◌, length, slice_index_or, if◌then◌else◌}
use Rattle.std.specs.Int.{bit_at}

-- A set of numbers. Word 0 is `here`. Word 2w + 1 is word w of the set with the number `left`, and word 2w + 2 is word w of the
-- set with the number `right`.
pub record Node : Type 0 where
  pub here : ℕ
  pub left : ℕ
  pub right : ℕ

-- The node of the empty set.
abbrev pub no_node : Node
no_node = record { here = 0; left = 0; right = 0 }

-- The node with this number.
abbrev pub node_at : List Node → ℕ → Node
node_at ns n = slice_index_or ns n no_node

-- The words of a node: word 0 is `here`, word 2w + 1 is `left w`, and word 2w + 2 is `right w`.
abbrev pub node_word : ℕ → (ℕ → ℕ) → (ℕ → ℕ) → ℕ → ℕ
node_word here left right zero = here
node_word here left right (suc y) = if nat_eq (y % 2) 0 then left (y / 2) else right (y / 2)

-- The word w of a set, if w is below `limit`.
abbrev pub word_below : List Node → ℕ → ℕ → ℕ → ℕ
word_below ns zero n w = 0
word_below ns (suc limit) n w = node_word (node_at ns n).here (word_below ns limit (node_at ns n).left) (word_below ns limit (node_at ns n).right) w

-- A word of a set.
unfoldable pub word : List Node → ℕ → ℕ → ℕ
word ns n w = word_below ns (suc w) n w

-- Whether a word has a bit.
abbrev pub has_bit : ℕ → ℕ → Bool
has_bit bits i = nat_eq (bit_at bits i) 1

-- Whether a set contains a number.
unfoldable pub member : List Node → ℕ → ℕ → Bool
member ns n x = has_bit (word ns n (x / 64)) (x % 64)

-- A node with a word of 64 bits and with children below a limit.
pub record PointsBelow (limit : ℕ) (node : Node) : Type 0 where
  pub here : node.here < 2 ^ 64
  pub left : node.left < limit
  pub right : node.right < limit

-- A pool of nodes: the first is the empty set, each other node has children before it, no two are equal, and there are at
-- most 4,294,967,295.
pub record IsPool (ns : List Node) : Type 0 where
  pub some : 0 < length ns
  pub few : length ns ≤ 4294967295
  pub empty : node_at ns 0 ≡ no_node
  pub older : (n : ℕ) → 0 < n → n < length ns → PointsBelow n (node_at ns n)
  pub different : (m n : ℕ) → m < length ns → n < length ns → node_at ns m ≡ node_at ns n → m ≡ n

-- The old nodes keep their numbers.
pub record KeepsNodes (old new : List Node) : Type 0 where
  pub more : List Node
  pub is : new ≡ old ++ more

-- No set contains a number from the limit on.
pub record IsBounded (limit : ℕ) (ns : List Node) : Type 0 where
  pub each : (n x : ℕ) → n < length ns → member ns n x ≡ true → x < limit

-- The pool with only the empty set.
abbrev pub initial_nodes : List Node
initial_nodes = no_node ∷ []

-- The words of the set with only this bit in the word with this index.
abbrev pub word_with : ℕ → ℕ → ℕ → ℕ
word_with index bit w = if nat_eq w index then 2 ^ bit else 0
