-- The line of a command is read as the command.
use Rattle.std.proofs.Common.{◌≡◌, ℕ, ◌≤◌, ◌<◌, ◌-◌, ◌^◌, Bool, true, false, cond, eqb, List, [], ◌∷◌, refl, sym, ◌∙◌, arith, Some}
use Rattle.std.specs.Prelude.{IsTrue, codes, decimal, slice_index}
use Rattle.std.specs.List.{join_with_byte}
use Rattle.std.specs.Str.{bytes_eq}
use Rattle.std.proofs.lemmas.Bool.{le-leb}
use Rattle.std.proofs.lemmas.Fmt.{digits_value-decimal}
use Rattle.std.proofs.lemmas.Slice.Eq.{bytes_eq-Decides}
use Rattle.hex.proofs.HexLemmas.{decode_of-encode_lower}
use Rattle.house_base.specs.Name.{is_name}
use Rattle.house_base.specs.Number.{number_up_to}
use Rattle.house_base.specs.Seed.{is_seed}
use Rattle.house_base.specs.declared.call.Call.{Call}
use Rattle.house_base.specs.declared.limits.TheConstants.{MOST_SEATS, FEWEST_CLUSTERS, MOST_CLUSTERS, MOST_REVIEWS}
use Rattle.house_base.proofs.Digits.{is_canonical-decimal, numerals}
use Rattle.house_base.specs.Text.{Text}
use Rattle.house_model.specs.declared.command.Command.{Command}
use Rattle.house_model.specs.declared.command.Command.TheVariants as command
use Rattle.house_model.specs.declared.verb.Verb.{Verb}
use Rattle.house_model.specs.declared.verb.Verb.TheVariants as verb
use Rattle.house_model.specs.Faults.{is_within}
use Rattle.house_model.specs.Said.{number}
use Rattle.house_model.specs.Text.{words}
use Rattle.house_model.specs.Verbs.{verb_of}
use Rattle.command_text.specs.Arguments.{IsSaid}
use Rattle.command_text.specs.Printing.{IsFormed, IsInBounds, command_line, command_words}
use Rattle.command_text.specs.Reading.{IsCommandLine, ReadsOnlyAs}
use Rattle.command_text.specs.declared.line.Line.TheVariants as kind
use Rattle.command_text.proofs.ArgumentLemmas.{command_by_words}
use Rattle.command_text.proofs.JoinedLemmas.{AreWords, hex64_of_digest, word_of_digest, word_of_name, word_of_number, word_of_seed, words_of_joined}
use Rattle.command_text.proofs.LineLemmas.{blank_by_first, review_by_first, verb_by_first}
use Rattle.command_text.proofs.NumberLemmas.{number_is, within_is}
use Rattle.command_text.proofs.OnceLemmas.{reads_once}

-- a printed number
printed : (most n : ℕ) → n ≤ most → most < 2 ^ 64 → number_up_to most (decimal n) ≡ Some n
unfolding number_up_to
printed most n small fits =
    rw (is_canonical-decimal n (omega arith), digits_value-decimal numerals n (omega arith), le-leb n most small) refl

printed_within : (low most n : ℕ) → low ≤ n → n ≤ most → most < 2 ^ 64 → is_within low most (decimal n) ≡ true
printed_within low most n large small fits = within_is low most n (decimal n) (printed most n small fits) ∙ le-leb low n large

printed_number : (n : ℕ) → n < 2 ^ 64 → n ≡ number (decimal n)
printed_number n fits = sym (number_is (2 ^ 64 - 1) n (decimal n) (omega arith) (printed (2 ^ 64 - 1) n (omega arith) (omega arith)))

-- a line by its first word and those that follow
said_line : (line first : Text) (args : List Text) (v : Verb) (c : Command) → words line ≡ first ∷ args → verb_of first ≡ v →
    eqb (slice_index first 0) 35 ≡ false → bytes_eq first (codes "review") ≡ false → IsSaid v args c → IsCommandLine line c
said_line line first args v c h is plain other said =
    command_by_words line first args v c h (verb_by_first line first args h ∙ is) (blank_by_first line first args h ∙ plain) (review_by_first line first args h ∙ other) said

call_back : (line : Text) (call : Call) → words line ≡ command_words (command.Call call) → IsCommandLine line (command.Call call)
unfolding verb_of
call_back line call h =
    let seats = call.seats_in_range in
    let clusters = call.clusters_in_range in
    let reviews = call.reviews_in_range in
    said_line line (codes "call") _ verb.Call _ h refl refl refl (record {
      verb = refl;
      formed = refl;
      named = refl;
      in_range = rw (printed_within 1 MOST_SEATS call.seats seats.0 seats.1 (omega arith), printed_within FEWEST_CLUSTERS MOST_CLUSTERS call.clusters clusters.0 clusters.1 (omega arith), printed_within 1 MOST_REVIEWS call.reviews reviews.0 reviews.1 (omega arith)) refl;
      says = (printed_number call.seats (omega arith), printed_number call.clusters (omega arith), printed_number call.reviews (omega arith));
    })

alone : (line name person : Text) → words line ≡ codes "applicant" ∷ name ∷ [] → IsTrue (is_name name) → name ≡ person → IsCommandLine line (command.Applicant name person)
unfolding verb_of
alone line name person h formed same =
    let formed_is : is_name name ≡ true = formed in
    said_line line (codes "applicant") (name ∷ []) verb.Applicant _ h refl refl refl (record {
      verb = refl;
      formed = refl;
      named = rw formed_is refl;
      in_range = refl;
      says = (refl, sym same);
    })

with_person : (line name person : Text) → words line ≡ codes "applicant" ∷ name ∷ person ∷ [] → IsTrue (is_name name) → IsTrue (is_name person) →
    IsCommandLine line (command.Applicant name person)
unfolding verb_of
with_person line name person h formed named =
    let formed_is : is_name name ≡ true = formed in
    let named_is : is_name person ≡ true = named in
    said_line line (codes "applicant") (name ∷ person ∷ []) verb.Applicant _ h refl refl refl (record {
      verb = refl;
      formed = refl;
      named = rw (formed_is, named_is) refl;
      in_range = refl;
      says = (refl, refl);
    })

applicant_back : (same : Bool) (line name person : Text) → bytes_eq name person ≡ same → words line ≡ codes "applicant" ∷ name ∷ cond same [] (person ∷ []) →
    IsTrue (is_name name) → IsTrue (is_name person) → IsCommandLine line (command.Applicant name person)
applicant_back true line name person e h formed named = alone line name person h formed ((bytes_eq-Decides name person).0 e)
applicant_back false line name person e h formed named = with_person line name person h formed named

-- a command whose words are of their form and within the bounds
back : (line : Text) (c : Command) → words line ≡ command_words c → IsFormed c → IsInBounds c → IsCommandLine line c
unfolding verb_of
back line (command.Call call) h f b = call_back line call h
back line (command.Applicant name person) h f b = applicant_back (bytes_eq name person) line name person refl h f.0 f.1
back line (command.Conflict person proposal) h f b =
    let first : is_name person ≡ true = f.0 in
    let second : is_name proposal ≡ true = f.1 in
    said_line line (codes "conflict") _ verb.Conflict _ h refl refl refl (record { verb = refl; formed = refl; named = rw (first, second) refl; in_range = refl; says = (refl, refl) })
back line (command.Place person cluster) h f b =
    let first : is_name person ≡ true = f in
    said_line line (codes "place") _ verb.Place _ h refl refl refl (record {
      verb = refl;
      formed = refl;
      named = rw first refl;
      in_range = rw (printed_within 1 MOST_CLUSTERS cluster b.0 b.1 (omega arith)) refl;
      says = (refl, printed_number cluster (omega (arith, b.1)));
    })
back line (command.Partition seed) h f b =
    let first : is_seed seed ≡ true = f in
    said_line line (codes "partition") _ verb.Partition _ h refl refl refl (record { verb = refl; formed = refl; named = rw first refl; in_range = refl; says = refl })
back line (command.Pair person proposal) h f b =
    let first : is_name person ≡ true = f.0 in
    let second : is_name proposal ≡ true = f.1 in
    said_line line (codes "pair") _ verb.Pair _ h refl refl refl (record { verb = refl; formed = refl; named = rw (first, second) refl; in_range = refl; says = (refl, refl) })
back line (command.Seal digest) h f b =
    said_line line (codes "seal") _ verb.Seal _ h refl refl refl (record {
      verb = refl;
      formed = rw (hex64_of_digest digest f.0 f.1) refl;
      named = refl;
      in_range = refl;
      says = decode_of-encode_lower digest f.1;
    })
back line command.Assign h f b = said_line line (codes "assign") [] verb.Assign _ h refl refl refl (record { verb = refl; formed = refl; named = refl; in_range = refl; says = tt })
back line command.Close h f b = said_line line (codes "close") [] verb.Close _ h refl refl refl (record { verb = refl; formed = refl; named = refl; in_range = refl; says = tt })
back line (command.Draw n) h f b =
    said_line line (codes "draw") _ verb.Draw _ h refl refl refl (record {
      verb = refl;
      formed = refl;
      named = refl;
      in_range = rw (printed_within 0 (2 ^ 64 - 1) n (omega arith) (omega (arith, f)) (omega arith)) refl;
      says = printed_number n f;
    })
back line (command.Lottery seed) h f b =
    let first : is_seed seed ≡ true = f in
    said_line line (codes "lottery") _ verb.Lottery _ h refl refl refl (record { verb = refl; formed = refl; named = rw first refl; in_range = refl; says = refl })

person_words : (same : Bool) (name person : Text) → IsTrue (is_name name) → IsTrue (is_name person) → AreWords (name ∷ cond same [] (person ∷ []))
person_words true name person f g = (word_of_name name f, tt)
person_words false name person f g = (word_of_name name f, (word_of_name person g, tt))

-- its words are words
are_words : (c : Command) → IsFormed c → IsInBounds c → AreWords (command_words c)
are_words (command.Call call) f b =
    let seats = call.seats_in_range in
    let clusters = call.clusters_in_range in
    let reviews = call.reviews_in_range in
    (refl, (word_of_number call.seats (omega arith), (word_of_number call.clusters (omega arith), (word_of_number call.reviews (omega arith), tt))))
are_words (command.Applicant name person) f b = (refl, person_words (bytes_eq name person) name person f.0 f.1)
are_words (command.Conflict person proposal) f b = (refl, (word_of_name person f.0, (word_of_name proposal f.1, tt)))
are_words (command.Place person cluster) f b = (refl, (word_of_name person f, (word_of_number cluster (omega (arith, b.1)), tt)))
are_words (command.Partition seed) f b = (refl, (word_of_seed seed f, tt))
are_words (command.Pair person proposal) f b = (refl, (word_of_name person f.0, (word_of_name proposal f.1, tt)))
are_words (command.Seal digest) f b = (refl, (word_of_digest digest f.0 f.1, tt))
are_words command.Assign f b = (refl, tt)
are_words command.Close f b = (refl, tt)
are_words (command.Draw n) f b = (refl, (word_of_number n f, tt))
are_words (command.Lottery seed) f b = (refl, (word_of_seed seed f, tt))

reads_back : (c : Command) → IsFormed c → IsInBounds c → IsCommandLine (command_line c) c
unfolding command_line
reads_back c f b = back (join_with_byte 32 (command_words c)) c (words_of_joined (command_words c) (are_words c f b)) f b

pub reads_only_as : (c : Command) → IsFormed c → IsInBounds c → ReadsOnlyAs (command_line c) (kind.House c)
reads_only_as c f b = record { reads = reads_back c f b; once = λ other h. reads_once (command_line c) other (kind.House c) h (reads_back c f b) }
