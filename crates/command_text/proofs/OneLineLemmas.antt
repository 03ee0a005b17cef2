-- The line of a command is one line.
use Rattle.std.proofs.Common.{◌≡◌, ℕ, zero, suc, ◌+◌, ◌%◌, ◌/◌, Bool, true, false, cond, ◌==◌, List, [], ◌∷◌, refl, arith}
use Rattle.std.specs.Prelude.{codes, decimal}
use Rattle.std.specs.Fmt.{digit_glyph, digits_onto, digits}
use Rattle.std.specs.List.{join_with_byte, list_all}
use Rattle.std.specs.Str.{bytes_eq}
use Rattle.std.proofs.lemmas.Bool.Decides.{nat_tests}
use Rattle.std.proofs.lemmas.List.Elements.{All-append, All-cons, All-nil, All-weaker}
use Rattle.std.proofs.lemmas.List.Sums.{AllPass-from_list_all}
use Rattle.hex.specs.Hex.{encode_lower}
use Rattle.house_base.specs.Name.{is_name, is_name_byte}
use Rattle.house_base.specs.Seed.{is_seed, is_seed_byte}
use Rattle.house_base.specs.Text.{Text}
use Rattle.house_model.specs.declared.command.Command.{Command}
use Rattle.house_model.specs.declared.command.Command.TheVariants as command
use Rattle.command_text.specs.Held.{HasNoFeed}
use Rattle.command_text.specs.Printing.{IsFormed, command_line, command_words}
use Rattle.command_text.proofs.DigestLemmas.{is_small_digit}
use Rattle.command_text.proofs.JoinedLemmas.{digits_are_small, name_parts, seed_parts}

-- the byte is no line feed
abbrev NoFeed : ℕ → Type 0
NoFeed b = (b == 10) ≡ false

by_bytes : (p : ℕ → Bool) → ((b : ℕ) → p b ≡ true → NoFeed b) → (w : Text) → list_all p w ≡ true → HasNoFeed w
by_bytes p free w all = All-weaker (λ b. p b ≡ true) NoFeed free w (AllPass-from_list_all p w all)

name_byte : (b : ℕ) → is_name_byte b ≡ true → NoFeed b
name_byte b h = grind (arith, nat_tests)

seed_byte : (b : ℕ) → is_seed_byte b ≡ true → NoFeed b
seed_byte b h = grind (arith, nat_tests)

small_digit_byte : (b : ℕ) → is_small_digit b ≡ true → NoFeed b
small_digit_byte b h = grind (arith, nat_tests)

glyph : (small : Bool) (d : ℕ) → NoFeed (cond small (48 + d) (87 + d))
glyph true d = grind (arith, nat_tests)
glyph false d = grind (arith, nat_tests)

digits_free : (k n : ℕ) (acc : Text) → HasNoFeed acc → HasNoFeed (digits_onto k 10 false n acc)
digits_free zero n acc h = h
digits_free (suc k) n acc h =
    let one = All-cons NoFeed (digit_glyph false (n % 10)) acc (glyph _ (n % 10)) h in
    elim (n / 10 == 0) as (λ b. HasNoFeed (cond b (digit_glyph false (n % 10) ∷ acc) (digits_onto k 10 false (n / 10) (digit_glyph false (n % 10) ∷ acc)))) [
      | true ↦ one
      | false ↦ digits_free k (n / 10) (digit_glyph false (n % 10) ∷ acc) one
    ]

number_free : (n : ℕ) → HasNoFeed (decimal n)
unfolding digits
number_free n = digits_free 64 n [] (All-nil NoFeed)

name_free : (w : Text) → is_name w ≡ true → HasNoFeed w
name_free w h = by_bytes is_name_byte name_byte w (name_parts w h).1

seed_free : (w : Text) → is_seed w ≡ true → HasNoFeed w
seed_free w h = by_bytes is_seed_byte seed_byte w (seed_parts w h).1

-- words without a line feed
abbrev AreFree : List Text → Type 0
AreFree [] = Unit {0}
AreFree (w ∷ ws) = HasNoFeed w × AreFree ws

joined_free : (ws : List Text) → AreFree ws → HasNoFeed (join_with_byte 32 ws)
joined_free [] h = All-nil NoFeed
joined_free (w ∷ []) h = h.0
joined_free (w ∷ v ∷ more) h =
    All-append NoFeed w (32 ∷ join_with_byte 32 (v ∷ more)) h.0 (All-cons NoFeed 32 (join_with_byte 32 (v ∷ more)) refl (joined_free (v ∷ more) h.1))

-- the first word of a command
verb_free : (w : Text) → list_all is_name_byte w ≡ true → HasNoFeed w
verb_free w h = by_bytes is_name_byte name_byte w h

person_free : (name person : Text) → is_name person ≡ true → AreFree (cond (bytes_eq name person) [] (person ∷ []))
person_free name person h = elim (bytes_eq name person) as (λ b. AreFree (cond b [] (person ∷ []))) [ true ↦ tt | false ↦ (name_free person h, tt) ]

words_free : (c : Command) → IsFormed c → AreFree (command_words c)
words_free (command.Call call) f = (verb_free (codes "call") refl, (number_free call.seats, (number_free call.clusters, (number_free call.reviews, tt))))
words_free (command.Applicant name person) f = (verb_free (codes "applicant") refl, (name_free name f.0, person_free name person f.1))
words_free (command.Conflict person proposal) f = (verb_free (codes "conflict") refl, (name_free person f.0, (name_free proposal f.1, tt)))
words_free (command.Place person cluster) f = (verb_free (codes "place") refl, (name_free person f, (number_free cluster, tt)))
words_free (command.Partition seed) f = (verb_free (codes "partition") refl, (seed_free seed f, tt))
words_free (command.Pair person proposal) f = (verb_free (codes "pair") refl, (name_free person f.0, (name_free proposal f.1, tt)))
words_free (command.Seal digest) f =
    (verb_free (codes "seal") refl, (by_bytes is_small_digit small_digit_byte (encode_lower digest) (digits_are_small digest f.1), tt))
words_free command.Assign f = (verb_free (codes "assign") refl, tt)
words_free command.Close f = (verb_free (codes "close") refl, tt)
words_free (command.Draw n) f = (verb_free (codes "draw") refl, (number_free n, tt))
words_free (command.Lottery seed) f = (verb_free (codes "lottery") refl, (seed_free seed f, tt))

-- no line feed stands in the line of a command
pub one_line : (c : Command) → IsFormed c → HasNoFeed (command_line c)
unfolding command_line
one_line c f = joined_free (command_words c) (words_free c f)
