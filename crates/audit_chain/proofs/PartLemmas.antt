-- The parts of a text between its line feeds.
use Rattle.std.proofs.Common.{◌≡◌, ℕ, ◌+◌, ◌-◌, ◌<◌, List, [], ◌∷◌, ◌++◌, length, length-append, take, drop, get_or, refl, ap, ◌∙◌, arith}
use Rattle.std.specs.Prelude.{Some, position}
use Rattle.std.specs.List.{position_or_len}
use Rattle.std.proofs.lemmas.List.Splits.{length-slice_split, slice_split_first, slice_split_none}
use Rattle.std.proofs.lemmas.List.{get_or-append-add}
use Rattle.command_text.specs.Held.{HasNoFeed}
use Rattle.command_text.proofs.FeedLemmas.{after_byte, is_feed, position_found}
use Rattle.house_base.specs.Text.{Text}
use Rattle.house_model.specs.Heard.{without_last}
use Rattle.audit_chain.specs.File.{parts, rest, rows}

-- the first part ends at the first line feed
pub parts_at_feed : (text : Text) (at : ℕ) → position is_feed text ≡ Some at →
    parts text ≡ take at text ∷ parts (take (length (drop at text) - 1) (drop 1 (drop at text)))
parts_at_feed text at h =
    let found = position_found text at h in
    let here : position_or_len is_feed text < length text = rw found.0 found.1 in
    slice_split_first is_feed text 0 here ∙ rw (found.0, after_byte text at) refl

-- a text without a line feed is its one part
pub parts_without_feed : (text : Text) → HasNoFeed text → parts text ≡ text ∷ []
parts_without_feed text none = slice_split_none is_feed text none

pub some_parts : (text : Text) → 0 < length (parts text)
some_parts text = omega (arith, length-slice_split is_feed text)

front_stays : (front : Text) (more : List Text) → 0 < length more → without_last (front ∷ more) ≡ front ∷ without_last more
front_stays front [] some = absurd (omega arith)
front_stays front (x ∷ more) some = refl

fronts_stay : (fronts more : List Text) → 0 < length more → without_last (fronts ++ more) ≡ fronts ++ without_last more
fronts_stay [] more some = refl
fronts_stay (front ∷ fronts) more some =
    front_stays front (fronts ++ more) (omega (arith, length-append fronts more)) ∙ ap (λ rows. front ∷ rows) (fronts_stay fronts more some)

-- the rows of a text of which some were cut off
pub rows_cut : (text : Text) (taken : List Text) (left : Text) → parts text ≡ taken ++ parts left → rows text ≡ taken ++ rows left
unfolding rows
rows_cut text taken left cut = ap without_last cut ∙ fronts_stay taken (parts left) (some_parts left)

-- and what stands behind its last line feed
pub rest_cut : (text : Text) (taken : List Text) (left : Text) → parts text ≡ taken ++ parts left → rest text ≡ rest left
unfolding rest
rest_cut text taken left cut =
    ap (λ n. get_or (parts text) n []) (ap length (rows_cut text taken left cut) ∙ length-append taken (rows left))
    ∙ ap (λ ps. get_or ps (length taken + length (rows left)) []) cut
    ∙ get_or-append-add taken (parts left) (length (rows left)) []

-- the same where nothing more is to be cut off
pub rows_of_none : (text : Text) → parts text ≡ text ∷ [] → rows text ≡ []
unfolding rows
rows_of_none text alone = ap without_last alone

pub rest_of_none : (text : Text) → parts text ≡ text ∷ [] → rest text ≡ text
unfolding rest
rest_of_none text alone =
    ap (λ n. get_or (parts text) n []) (ap length (rows_of_none text alone)) ∙ ap (λ ps. get_or ps 0 []) alone

-- the first of the rows
pub rows_first : (text row behind : Text) → parts text ≡ row ∷ parts behind → rows text ≡ row ∷ rows behind
unfolding rows
rows_first text row behind cut = ap without_last cut ∙ front_stays row (parts behind) (some_parts behind)
