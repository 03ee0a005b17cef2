-- Bytes in pieces, with one feed more.
use Rattle.std.proofs.Common.{◌≡◌, ℕ, ◌+◌, ◌<◌, ◌≤◌, Bool, true, false, List, [], ◌∷◌, ◌++◌, length, take, Option, Some, None, refl, sym, ap, ◌∙◌, arith, append-nil, append_assoc, length-append, length-take}
use Rattle.std.specs.Prelude.{if◌then◌else◌}
use Rattle.std.specs.Option.{option_to_list}
use Rattle.command_text.specs.Cutting.{Cutting, Feeding, Feeds, AreFed, fresh, last_after, used_bytes, ended_lines, ended_line, rest_of}
use Rattle.command_text.proofs.CuttingLemmas.{feeds_give_lines, feeds_give_whole_lines}
use Rattle.house_base.specs.Text.{Text}
use Rattle.house_model.specs.Heard.{whole_lines}
use Rattle.house_model.specs.Text.{is_empty, lines, without_return}
use Rattle.input_run.specs.Hearing.{IsCut}

fed_more : (before : Cutting) (fs : List Feeding) (f : Feeding) → AreFed before fs → Feeds (last_after before fs) f.piece f.used f.whole f.after → AreFed before (fs ++ f ∷ [])
fed_more before [] f fed last = (last, tt)
fed_more before (x ∷ fs) f fed last = (fed.0, fed_more x.after fs f fed.1 last)

last_of_more : (before : Cutting) (fs : List Feeding) (f : Feeding) → last_after before (fs ++ f ∷ []) ≡ f.after
last_of_more before [] f = refl
last_of_more before (x ∷ fs) f = last_of_more x.after fs f

used_more : (fs : List Feeding) (f : Feeding) → used_bytes (fs ++ f ∷ []) ≡ used_bytes fs ++ take f.used f.piece
used_more [] f = append-nil (take f.used f.piece)
used_more (x ∷ fs) f = ap (λ bytes. take x.used x.piece ++ bytes) (used_more fs f) ∙ sym (append_assoc (take x.used x.piece) (used_bytes fs) (take f.used f.piece))

ended_more : (fs : List Feeding) (f : Feeding) → ended_lines (fs ++ f ∷ []) ≡ ended_lines fs ++ option_to_list (ended_line f.after)
ended_more [] f = append-nil (option_to_list (ended_line f.after))
ended_more (x ∷ fs) f = ap (λ ls. option_to_list (ended_line x.after) ++ ls) (ended_more fs f) ∙ sym (append_assoc (option_to_list (ended_line x.after)) (ended_lines fs) (option_to_list (ended_line f.after)))

pub cut-none : IsCut [] fresh
cut-none = record { feeds = []; are_fed = tt; used = refl; left = refl }

-- a feed looks at nothing but what has begun
feeds_same : (held before : Cutting) (piece : Text) (used : ℕ) (whole : Bool) (after : Cutting) → held.begun ≡ before.begun → Feeds before piece used whole after → Feeds held piece used whole after
feeds_same held before piece used true after same feeds = record {
  front = feeds.front;
  front_has_no_feed = feeds.front_has_no_feed;
  used_is = feeds.used_is;
  front_is = feeds.front_is;
  after_is = feeds.after_is ∙ ap (λ b. record { begun = []; ended = Some (b ++ feeds.front) }) (sym same);
}
feeds_same held before piece used false after same feeds = record {
  has_no_feed = feeds.has_no_feed;
  used_is = feeds.used_is;
  after_is = feeds.after_is ∙ ap (λ b. record { begun = b ++ piece; ended = None }) (sym same);
}

-- where as much has begun, as much was cut
pub cut-same : (bytes : Text) (after before : Cutting) → after.begun ≡ before.begun → IsCut bytes after → IsCut bytes before
cut-same bytes after before same cut = record { feeds = cut.feeds; are_fed = cut.are_fed; used = cut.used; left = cut.left ∙ same }

abbrev feed_of : Text → ℕ → Bool → Cutting → Feeding
feed_of piece used whole after = record { piece = piece; used = used; whole = whole; after = after }

pub cut-more : (bytes piece : Text) (before after : Cutting) (used : ℕ) (whole : Bool) → IsCut bytes before → Feeds before piece used whole after → IsCut (bytes ++ take used piece) after
cut-more bytes piece before after used whole cut feeds =
    let f = feed_of piece used whole after in
    record {
      feeds = cut.feeds ++ f ∷ [];
      are_fed = fed_more fresh cut.feeds f cut.are_fed (feeds_same (last_after fresh cut.feeds) before piece used whole after cut.left feeds);
      used = used_more cut.feeds f ∙ ap (λ t. t ++ take used piece) cut.used;
      left = ap (λ c. c.begun) (last_of_more fresh cut.feeds f);
    }

-- the lines that end in bytes, with one feed more
pub whole-more : (bytes piece : Text) (before after : Cutting) (used : ℕ) (whole : Bool) → IsCut bytes before → Feeds before piece used whole after →
    whole_lines (bytes ++ take used piece) ≡ whole_lines bytes ++ option_to_list (ended_line after)
unfolding cut-more
whole-more bytes piece before after used whole cut feeds =
    let f = feed_of piece used whole after in
    let more = cut-more bytes piece before after used whole cut feeds in
    ap whole_lines (sym more.used) ∙ sym (feeds_give_whole_lines more.feeds more.are_fed) ∙ ended_more cut.feeds f
    ∙ ap (λ ls. ls ++ option_to_list (ended_line after)) (feeds_give_whole_lines cut.feeds cut.are_fed ∙ ap whole_lines cut.used)

-- the lines of bytes are those that end in them, and what stands behind the last line feed
pub lines-cut : (bytes : Text) (cutting : Cutting) → IsCut bytes cutting → lines bytes ≡ whole_lines bytes ++ option_to_list (rest_of cutting)
lines-cut bytes cutting cut =
    ap lines (sym cut.used) ∙ sym (feeds_give_lines cut.feeds cut.are_fed)
    ∙ ap (λ ls. ls ++ option_to_list (rest_of (last_after fresh cut.feeds))) (feeds_give_whole_lines cut.feeds cut.are_fed ∙ ap whole_lines cut.used)
    ∙ ap (λ b. whole_lines bytes ++ option_to_list (if is_empty b then None else Some (without_return b))) cut.left

pub rest-le : (rest : Option Text) → length (option_to_list rest) ≤ 1
rest-le None = omega arith
rest-le (Some line) = omega arith

-- a feed uses some of a piece, and no more than it has
pub used_within : (before : Cutting) (piece : Text) (used : ℕ) (whole : Bool) (after : Cutting) → Feeds before piece used whole after → used ≤ length piece
used_within before piece used true after feeds =
    let taken : length (take used piece) ≡ length feeds.front + 1 = ap length feeds.front_is ∙ length-append feeds.front (10 ∷ []) in
    omega (arith, taken, length-take used piece, feeds.used_is)
used_within before piece used false after feeds = omega (arith, feeds.used_is)

pub used_some : (before : Cutting) (piece : Text) (used : ℕ) (whole : Bool) (after : Cutting) → Feeds before piece used whole after → 0 < length piece → 0 < used
used_some before piece used true after feeds some = omega (arith, feeds.used_is)
used_some before piece used false after feeds some = omega (arith, feeds.used_is)

-- behind a line that ended nothing has begun
pub none_begun : (before : Cutting) (piece : Text) (used : ℕ) (whole : Bool) (after : Cutting) (line : Text) → Feeds before piece used whole after → ended_line after ≡ Some line → rest_of after ≡ None
none_begun before piece used true after line feeds ended = ap (λ c. rest_of c) feeds.after_is
none_begun before piece used false after line feeds ended = absurd (let wrong : None ≡ Some line = sym (ap (λ c. ended_line c) feeds.after_is) ∙ ended in cc)
