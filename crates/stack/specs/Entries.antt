-- What a stack holds, and what calls keep of the memory that it is lent.
use Rattle.std.specs.Prelude.{◌≡◌, ℕ, ◌≤◌, List, reverse, length, take, drop}
use Rattle.stack.specs.declared.stack.Stack.{Stack}

module _ {T : Type 0} where
  -- the entries, the top first
  abbrev pub entries : Stack T → List T
  entries s = reverse (take s.len s.items.now)

  -- how many there is room for
  abbrev pub room : Stack T → ℕ
  room s = length s.items.now

  -- calls keep the slice that the stack is lent, its length, and what lies beyond the entries, before and after
  pub record Keeps (a b : Stack T) : Type 0 where
    pub lent : b.items.ghost_name ≡ a.items.ghost_name
    pub size : length b.items.now ≡ length a.items.now
    pub beyond : (n : ℕ) → a.len ≤ n → b.len ≤ n → drop n b.items.now ≡ drop n a.items.now
