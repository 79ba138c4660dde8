-- One byte of a text, by its index.
use Rattle.std.proofs.Common.{◌≡◌, ℕ, suc, ◌+◌, ◌-◌, ◌<◌, ◌≤◌, true, false, List, ◌∷◌, length, get_or, take, drop, Some, Option, sym, refl, ap, ◌∙◌, subst, add-one, arith}
use Rattle.std.proofs.lemmas.List.{drop_more, drop_all, drop-drop, get_or-drop, length-drop, length-take-le, take_all}
use Rattle.token.specs.declared.lexer.State.{State}
use Rattle.token.specs.declared.lexer.State.TheVariants.{E1}
use Rattle.token.specs.Lexis.{Piece, one, piece, placed, from}
use Rattle.token.specs.Tokens.{Token}
use Rattle.token.specs.Reading.{spelled, Proper, Stands}
use Rattle.token.specs.Views.{Found}
use Rattle.token.specs.Transducer.{moves, inside, width, final, emitted}
use Rattle.token.proofs.Pieces.{from_skip, token_here, along, along_end, idle, Starts, starts, goes}
use Rattle.token.proofs.Readings.{here}

-- a loop over the bytes of ys from a on, when it has gone over i of them: the next one is that at j, or there is none
module _ (xs ys : List ℕ) (a i j : ℕ) (same : ys ≡ xs) (at : j ≡ a + i) where
  left : take (length xs - a) (drop a xs) ≡ drop a ys
  left = take_all (length xs - a) (drop a xs) (simp length-drop (omega arith)) ∙ ap (drop a) (sym same)

  size : length (take (length xs - a) (drop a xs)) ≡ length ys - a
  size = ap length left ∙ length-drop a ys

  pub some_left : i < length (take (length xs - a) (drop a xs)) → j < length ys
  some_left low = omega (arith, size, at, low)

  pub none_left : length (take (length xs - a) (drop a xs)) ≤ i → length ys ≤ j
  none_left high = omega (arith, size, at, high)

  pub next_byte : get_or (take (length xs - a) (drop a xs)) i 0 ≡ get_or ys j 0
  next_byte = ap (λ l. get_or l i 0) left ∙ get_or-drop a ys i 0 ∙ ap (λ k. get_or ys k 0) (sym at)

-- t is the state that the byte at i leads to from s
module _ (xs : List ℕ) (i : ℕ) (s t : State) (low : i < length xs) (moved : t ≡ moves s (get_or xs i 0)) where
  split : drop i xs ≡ get_or xs i 0 ∷ drop (i + 1) xs
  split = drop_more xs i 0 low

  as_moved : (v : _) → inside t ≡ v → inside (moves s (get_or xs i 0)) ≡ v
  as_moved v e = ap inside (sym moved) ∙ e

  pub idle_at : inside s ≡ false → inside t ≡ false → along t (i + 1) (drop (i + 1) xs) ≡ along s i (drop i xs)
  idle_at out on =
      ap (λ u. along u (i + 1) (drop (i + 1) xs)) moved ∙ ap (λ n. along (moves s (get_or xs i 0)) n (drop (i + 1) xs)) (add-one i)
      ∙ sym (idle s i (get_or xs i 0) (drop (i + 1) xs) out (as_moved false on)) ∙ ap (along s i) (sym split)

  pub start_at : inside s ≡ false → inside t ≡ true → Starts s (get_or xs i 0)
  start_at out on = starts s (get_or xs i 0) out (as_moved true on)

  pub goes_at : inside s ≡ true → inside t ≡ true →
      ((i + 1) + width t (drop (i + 1) xs) ≡ i + width s (drop i xs)) × (final t (drop (i + 1) xs) ≡ final s (drop i xs))
  goes_at on on' =
      let g = goes s (get_or xs i 0) (drop (i + 1) xs) on (as_moved true on') in
      let w : width t (drop (i + 1) xs) ≡ width (moves s (get_or xs i 0)) (drop (i + 1) xs) = ap (λ u. width u (drop (i + 1) xs)) moved in
      let v : width s (drop i xs) ≡ width s (get_or xs i 0 ∷ drop (i + 1) xs) = ap (width s) split in (
        omega (arith, g.width_is, w, v),
        ap (λ u. final u (drop (i + 1) xs)) moved ∙ sym g.final_is ∙ ap (final s) (sym split),
      )

pub over_at : (xs : List ℕ) (i : ℕ) (s : State) → length xs ≤ i → inside s ≡ false → from 0 i (drop i xs) ≡ along s i (drop i xs)
over_at xs i s h out = let none = drop_all i xs h in ap (from 0 i) none ∙ sym (along_end s i) ∙ ap (along s i) (sym none)

-- a token of which the first byte stands at i, with the state s that it leads to, and which ends before n
module _ (xs : List ℕ) (i n : ℕ) (s : State) (low : i < length xs) (moved : s ≡ moves E1 (get_or xs i 0)) (on : inside s ≡ true)
    (to : n ≡ (i + 1) + width s (drop (i + 1) xs)) where
  pub byte : ℕ
  byte = get_or xs i 0

  starting : Starts E1 byte
  unfolding byte
  starting = starts E1 (get_or xs i 0) refl (ap inside (sym moved) ∙ on)

  -- the token's bytes
  whole : byte ∷ take (width s (drop (i + 1) xs)) (drop (i + 1) xs) ≡ take (n - i) (drop i xs)
  unfolding byte
  whole =
      let w = width s (drop (i + 1) xs) in
      let size : n - i ≡ suc w = omega (arith, to) in
      sym (ap (λ k. take k (drop i xs)) size ∙ ap (take (suc w)) (drop_more xs i 0 low))

  token : Token
  token = emitted (final s (drop (i + 1) xs)) (take (n - i) (drop i xs))

  piece_at : piece byte (drop (i + 1) xs) ≡ one token (width s (drop (i + 1) xs))
  unfolding byte token
  piece_at =
      let bs = drop (i + 1) xs in
      token_here byte bs starting.not_blank starting.not_comment
      ∙ ap (λ u. one (emitted (final u bs) (byte ∷ take (width u bs) bs)) (width u bs)) (sym moved)
      ∙ ap (λ l. one (emitted (final s bs) l) (width s bs)) whole

  pub token_at : from 0 i (drop i xs) ≡ record { offset = i; token = emitted (final s (drop (i + 1) xs)) (take (n - i) (drop i xs)) } ∷ from 0 n (drop n xs)
  unfolding byte token
  token_at =
      let bs = drop (i + 1) xs in
      let w = width s bs in
      let end : suc i + w ≡ n = omega (arith, to) in
      let left : drop w bs ≡ drop n xs = drop-drop w (i + 1) xs ∙ ap (λ k. drop k xs) (omega (arith, to)) in
      ap (from 0 i) (drop_more xs i 0 low) ∙ ap (λ (r : Piece). placed i r.token (from r.more (suc i) bs)) piece_at
      ∙ ap (λ l. record { offset = i; token = token } ∷ l) (from_skip w (suc i) bs ∙ (λ k. from 0 (end k) (left k)))

  pub stands_at : Stands xs i (emitted (final s (drop (i + 1) xs)) (take (n - i) (drop i xs))) × (n ≡ i + length (spelled (emitted (final s (drop (i + 1) xs)) (take (n - i) (drop i xs)))))
  unfolding byte token
  stands_at =
      let bs = drop (i + 1) xs in
      let p = here byte bs starting.not_blank starting.not_comment in
      let h = p.2 in
      let same : one p.0 p.1 ≡ one token (width s bs) = sym h.is ∙ piece_at in
      let more : p.1 ≡ width s bs = ap (λ (q : Piece). q.more) same in
      let tok : Some p.0 ≡ Some token = ap (λ (q : Piece). q.token) same in
      let is : p.0 ≡ token = cc in
      let bytes : take (n - i) (drop i xs) ≡ spelled token = sym whole ∙ ap (λ k. byte ∷ take k bs) (sym more) ∙ h.bytes ∙ ap spelled is in
      let room : p.1 ≤ length xs - (i + 1) = omega (arith, h.room, length-drop (i + 1) xs) in
      let size : length (spelled token) ≡ n - i = ap length (sym bytes) ∙ length-take-le (n - i) (drop i xs) (omega (arith, to, length-drop i xs)) in (
        record {
          proper = subst Proper is h.proper;
          some = omega (arith, to);
          within = omega (arith, to);
          bytes = ap (λ k. take k (drop i xs)) size ∙ bytes;
        },
        omega (arith, to),
      )

pub found_from : {xs ys : List ℕ} {i : ℕ} {t : Token} {o : Option Token} → Stands xs i t → xs ≡ ys → o ≡ Some t → Found ys i o
found_from {xs} {ys} {i} {t} {o} h p q = subst (λ (u : Option Token). Found ys i u) (sym q) (subst (λ (l : List ℕ). Stands l i t) p h)
