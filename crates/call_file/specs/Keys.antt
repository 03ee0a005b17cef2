-- What a call file says, key by key.
use Rattle.std.specs.Prelude.{ℕ, ℤ, pos, negsuc, Bool, true, false, List, [], ◌∷◌, Option, Some, None, codes, ◌==◌, ◌&&◌, ◌||◌, not, nat_le, is_some, option_map, option_and_then, unwrap_or, find, if◌then◌else◌}
use Rattle.std.specs.List.{list_any}
use Rattle.std.specs.Option.{option_map_or}
use Rattle.std.specs.Result.{result_unwrap_or}
use Rattle.std.specs.Str.{bytes_eq, is_utf8}
use Rattle.hex.specs.Hex.{decode_of}
use Rattle.toml.specs.Data.{Data, Members, no_members, member, as_integer, as_str, get_member}
use Rattle.toml.specs.Parse.{parse_document}
use Rattle.house_base.specs.Seed.{is_seed}
use Rattle.house_base.specs.declared.limits.TheConstants.{MOST_SEATS, FEWEST_CLUSTERS, MOST_CLUSTERS, MOST_REVIEWS}
use Rattle.house_base.specs.Text.{Text}
use Rattle.house_model.specs.Verbs.{is_hex64}
use Rattle.call_file.specs.declared.key.Key.{Key}
use Rattle.call_file.specs.declared.key.Key.TheVariants as key
use Rattle.call_file.specs.declared.settings.Settings.{Settings}
use Rattle.call_file.specs.declared.settings.Version.{Version}
use Rattle.call_file.specs.declared.settings.Version.TheVariants as version

-- the table of a call file, where it is a TOML document
unfoldable pub document : Text → Option Members
document call = if is_utf8 call then parse_document call else None

-- a key as a call file writes it
abbrev pub key_word : Key → Text
key_word key.Version = codes "version"
key_word key.Seats = codes "seats"
key_word key.Clusters = codes "clusters"
key_word key.Reviews = codes "reviews"
key_word key.Partition = codes "partition"
key_word key.Seal = codes "seal"
key_word key.Other = codes "other"

-- one of the six keys that have a meaning
abbrev pub is_named : Text → Bool
is_named word =
    bytes_eq word (codes "version") || bytes_eq word (codes "seats") || bytes_eq word (codes "clusters")
    || bytes_eq word (codes "reviews") || bytes_eq word (codes "partition") || bytes_eq word (codes "seal")

-- the keys of a table
abbrev pub keys_of : Members → List Text
keys_of no_members = []
keys_of (member word value rest) = word ∷ keys_of rest

-- a key without a meaning stands in the table
unfoldable pub has_strange_key : Members → Bool
has_strange_key table = list_any (λ word. not (is_named word)) (keys_of table)

-- the value under a key
abbrev pub value_at : Members → Key → Option Data
value_at table k = get_member (key_word k) table

-- a number that is not below 0
abbrev pub natural : ℤ → Option ℕ
natural (pos n) = Some n
natural (negsuc n) = None

-- the number, where it is within bounds
abbrev pub within : ℕ → ℕ → ℕ → Option ℕ
within low high n = if nat_le low n && nat_le n high then Some n else None

-- the whole number of a value, where it is one within bounds
abbrev pub number_within : ℕ → ℕ → Option Data → Option ℕ
number_within low high value =
    option_and_then (within low high) (option_and_then natural (option_and_then as_integer value))

-- the text of a value, or that there is no value; None for a value that is no text
abbrev pub text_under : Option Data → Option (Option Text)
text_under None = Some None
text_under (Some value) = option_map Some (as_str value)

-- there is no value, or a text of a form
abbrev pub is_missing_or : (Text → Bool) → Option Data → Bool
is_missing_or form value = option_map_or (λ text. option_map_or form text true) (text_under value) false

-- what stands under a key, or is missing there, is as it has to be
abbrev pub key_fits : Members → Key → Bool
key_fits table key.Version = not (is_some (value_at table key.Version)) || is_some (number_within 1 2 (value_at table key.Version))
key_fits table key.Seats = is_some (number_within 1 MOST_SEATS (value_at table key.Seats))
key_fits table key.Clusters = is_some (number_within FEWEST_CLUSTERS MOST_CLUSTERS (value_at table key.Clusters))
key_fits table key.Reviews = is_some (number_within 1 MOST_REVIEWS (value_at table key.Reviews))
key_fits table key.Partition = is_missing_or is_seed (value_at table key.Partition)
key_fits table key.Seal = is_missing_or is_hex64 (value_at table key.Seal)
key_fits table key.Other = not (has_strange_key table)

-- the keys in the order in which a fault of theirs counts
abbrev pub ordered_keys : List Key
ordered_keys =
    key.Version ∷ key.Seats ∷ key.Clusters ∷ key.Reviews ∷ key.Partition ∷ key.Seal ∷ key.Other ∷ []

-- the first key that is not as it has to be
unfoldable pub bad_key : Members → Option Key
bad_key table = find (λ k. not (key_fits table k)) ordered_keys

-- the version is the second where it is named so, and else the first
abbrev pub version_of : Members → Version
version_of table =
    if option_map_or (λ n. n == 2) (number_within 1 2 (value_at table key.Version)) false then version.Second else version.First

-- the text under a key
abbrev pub text_of : Members → Key → Option Text
text_of table k = option_and_then as_str (value_at table k)

-- the bytes that digits in hexadecimal stand for
abbrev pub digest_in : Text → List ℕ
digest_in digits = result_unwrap_or (decode_of digits) []

-- what a call file says
pub record Said : Type 0 where
  pub version : Version
  pub seats : ℕ
  pub clusters : ℕ
  pub reviews : ℕ
  pub partition : Option Text
  pub seal : Option (List ℕ)

unfoldable pub said_in : Members → Said
said_in table =
    record {
      version = version_of table;
      seats = unwrap_or (number_within 1 MOST_SEATS (value_at table key.Seats)) 0;
      clusters = unwrap_or (number_within FEWEST_CLUSTERS MOST_CLUSTERS (value_at table key.Clusters)) 0;
      reviews = unwrap_or (number_within 1 MOST_REVIEWS (value_at table key.Reviews)) 0;
      partition = text_of table key.Partition;
      seal = option_map digest_in (text_of table key.Seal);
    }

-- the same as it is kept
abbrev pub said_by : Settings → Said
said_by settings =
    record {
      version = settings.version;
      seats = settings.call.seats;
      clusters = settings.call.clusters;
      reviews = settings.call.reviews;
      partition = settings.partition;
      seal = settings.seal;
    }
