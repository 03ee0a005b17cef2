-- The parts of words: numbers within bounds, shares, cells.
use Rattle.std.proofs.Common.{◌≡◌, ℕ, ◌+◌, ◌-◌, ◌^◌, ◌∙◌, Bool, true, false, ◌&&◌, length, take, drop, refl, sym, ap, arith, Some, None, []}
use Rattle.std.specs.Prelude.{position}
use Rattle.std.specs.List.{before_first, after_first, position_or_len}
use Rattle.std.proofs.lemmas.List.{drop_all}
use Rattle.std.proofs.Math.Seq.{take-length}
use Rattle.std.proofs.lemmas.Bool.{le-leb}
use Rattle.house_base.specs.Name.{is_name}
use Rattle.house_base.specs.Number.{is_canonical, number_up_to}
use Rattle.house_base.specs.Text.{Text}
use Rattle.house_base.specs.declared.limits.TheConstants.{MOST_POINTS}
use Rattle.house_model.specs.Faults.{is_within}
use Rattle.command_text.proofs.NumberLemmas.{within_is, within_none}
use Rattle.command_text.proofs.WordLemmas.{after_element}
use Rattle.slip_check.specs.Form.{before_slash, behind_slash, before_colon, behind_colon, is_cell, is_share}
use Rattle.command_text.proofs.StrictLemmas.{position_found, position_missing}

-- What stands before and behind the first byte that passes.

pub before_found : (test : ℕ → Bool) (w : Text) (at : ℕ) → position test w ≡ Some at → take at w ≡ before_first test w
before_found test w at h = ap (λ n. take n w) (sym (position_found test w at h).0)

pub behind_found : (test : ℕ → Bool) (w : Text) (at : ℕ) → position test w ≡ Some at → take (length (drop at w) - 1) (drop 1 (drop at w)) ≡ after_first test w
behind_found test w at h = after_element w at ∙ ap (λ n. drop (n + 1) w) (sym (position_found test w at h).0)

pub before_missing : (test : ℕ → Bool) (w : Text) → position test w ≡ None → w ≡ before_first test w
before_missing test w h = sym (take-length w) ∙ ap (λ n. take n w) (sym (position_missing test w h))

pub behind_missing : (test : ℕ → Bool) (w : Text) → position test w ≡ None → [] ≡ after_first test w
behind_missing test w h = sym (drop_all (position_or_len test w + 1) w (omega (arith, position_missing test w h)))

-- Shares.

and_no : (a b : Bool) → b ≡ false → (a && b) ≡ false
and_no true b h = h
and_no false b h = refl

pub share_formed : (w : Text) (n : ℕ) → number_up_to (2 ^ 64 - 1) (before_slash w) ≡ Some n → is_canonical (behind_slash w) ≡ true → is_share w ≡ true
unfolding is_share
share_formed w n h canonical =
    let within : is_within 0 (2 ^ 64 - 1) (before_slash w) ≡ true = within_is 0 (2 ^ 64 - 1) n (before_slash w) h ∙ le-leb 0 n (omega arith) in
    rw (within, canonical) refl

pub share_without_number : (w : Text) → number_up_to (2 ^ 64 - 1) (before_slash w) ≡ None → is_share w ≡ false
unfolding is_share
share_without_number w h = ap (λ b. b && is_canonical (behind_slash w)) (within_none 0 (2 ^ 64 - 1) (before_slash w) h)

pub share_without_den : (w : Text) → is_canonical (behind_slash w) ≡ false → is_share w ≡ false
unfolding is_share
share_without_den w h = and_no (is_within 0 (2 ^ 64 - 1) (before_slash w)) (is_canonical (behind_slash w)) h

-- Cells.

pub cell_formed : (w : Text) → is_name (before_colon w) ≡ true → is_within 0 MOST_POINTS (behind_colon w) ≡ true → is_cell w ≡ true
unfolding is_cell
cell_formed w h k = rw (h, k) refl

pub cell_without_name : (w : Text) → is_name (before_colon w) ≡ false → is_cell w ≡ false
unfolding is_cell
cell_without_name w h = ap (λ b. b && is_within 0 MOST_POINTS (behind_colon w)) h

pub cell_without_points : (w : Text) → is_within 0 MOST_POINTS (behind_colon w) ≡ false → is_cell w ≡ false
unfolding is_cell
cell_without_points w h = and_no (is_name (before_colon w)) (is_within 0 MOST_POINTS (behind_colon w)) h
