-- Bytes are read in one way.
use Rattle.std.proofs.Common.{◌≡◌, ℕ, suc, ◌<◌, ◌≤◌, true, List, [], ◌∷◌, ◌++◌, length, take, drop, get_or, refl, sym, ap, ◌∙◌, append_assoc, arith, drop-cons, inl, inr, Result, Ok, Err}
use Rattle.std.specs.FinMap.{entries, is_sorted, same_entries_map}
use Rattle.std.proofs.lemmas.Bool.{cases_lt}
use Rattle.std.proofs.lemmas.List.{append-nil, append_cancel_left, get_or-take, take-append-drop, take-append-le, take_all}
use Rattle.std.proofs.lemmas.List.Elements.{All-get_or, All-head, All-tail}
use Rattle.std.proofs.Math.Seq.{take-append_seam}
use Rattle.house_base.specs.Text.{Text}
use Rattle.desk_merge.specs.Desk.{AreItems, CanFollow, IsFaultAt, IsItem, Reads, desk_file, desk_text, entry_line}
use Rattle.desk_merge.specs.Held.{items_in}
use Rattle.desk_merge.specs.Joined.{Item, Joined, key_cmp}
use Rattle.desk_merge.proofs.HeldLemmas.{items_in-cons, items_in-desk_text}
use Rattle.desk_merge.proofs.OrderLemmas.{sorted_entries}
use Rattle.desk_merge.proofs.SortedLemmas.{follows_all, rises}

desk_text-append : (xs ys : List Item) → desk_text (xs ++ ys) ≡ desk_text xs ++ desk_text ys
unfolding desk_text
desk_text-append [] ys = refl
desk_text-append (x ∷ xs) ys = ap (λ t. entry_line x ++ t) (desk_text-append xs ys) ∙ sym (append_assoc (entry_line x) (desk_text xs) (desk_text ys))

line_first : (e : Item) (es : List Item) → desk_text (e ∷ es) ≡ entry_line e ++ desk_text es
unfolding desk_text
line_first e es = refl

-- what a text says begins with the items whose lines it begins with
items_in-append : (xs : List Item) (behind : Text) → AreItems xs → items_in (desk_text xs ++ behind) ≡ xs ++ items_in behind
unfolding desk_text
items_in-append [] behind h = refl
items_in-append (x ∷ xs) behind h =
    ap items_in (append_assoc (entry_line x) (desk_text xs) behind)
    ∙ items_in-cons x (desk_text xs ++ behind) (All-head IsItem x xs h)
    ∙ ap (λ es. x ∷ es) (items_in-append xs behind (All-tail IsItem x xs h))

-- the shorter of two fronts of a list is a front of the other
shorter_front : (xs ys p q : List Item) → xs ++ p ≡ ys ++ q → length xs ≤ length ys → xs ≡ take (length xs) ys
shorter_front xs ys p q same short = sym (take-append_seam xs p) ∙ ap (take (length xs)) same ∙ take-append-le (length xs) ys q short

same_fronts : (bytes : Text) (xs ys : List Item) (x y : Text) → bytes ≡ desk_text xs ++ x → bytes ≡ desk_text ys ++ y → AreItems xs → AreItems ys → xs ++ items_in x ≡ ys ++ items_in y
same_fronts bytes xs ys x y one other f g = sym (items_in-append xs x f) ∙ ap items_in (sym one ∙ other) ∙ items_in-append ys y g

-- lines up to a fault are no fewer than those of any other front
no_fewer : (bytes : Text) (line : ℕ) (ys : List Item) (y : Text) (fault : IsFaultAt bytes line) → bytes ≡ desk_text ys ++ y → AreItems ys → is_sorted key_cmp ys ≡ true → length fault.before < length ys → ⊥
no_fewer bytes line ys y fault bytes_are items rise fewer =
    let xs = fault.before in
    let n = length xs in
    let none : Item = (([], []), (0, 0)) in
    let e = get_or ys n none in
    let front : xs ≡ take n ys = shorter_front xs ys (items_in fault.behind) (items_in y) (same_fronts bytes xs ys fault.behind y fault.bytes_are bytes_are fault.items items) (omega (arith, fewer)) in
    let apart : ys ≡ xs ++ e ∷ drop (suc n) ys = sym (take-append-drop n ys) ∙ ap (λ t. t ++ drop n ys) (sym front) ∙ ap (λ t. xs ++ t) (drop-cons ys n none fewer) in
    let follows : CanFollow xs e = follows_all xs e none fault.rise (λ i within.
    ap (λ z. key_cmp (get_or z i none).0 e.0) front ∙ ap (λ z. key_cmp z.0 e.0) (get_or-take n ys i none within) ∙ rises ys i n none rise within fewer) in
    let rest = desk_text (drop (suc n) ys) ++ y in
    let begins : desk_text xs ++ fault.behind ≡ desk_text xs ++ (entry_line e ++ rest) =
    sym fault.bytes_are ∙ bytes_are ∙ ap (λ es. desk_text es ++ y) apart ∙ ap (λ t. t ++ y) (desk_text-append xs (e ∷ drop (suc n) ys) ∙ ap (λ t. desk_text xs ++ t) (line_first e (drop (suc n) ys)))
    ∙ append_assoc (desk_text xs) (entry_line e ++ desk_text (drop (suc n) ys)) y
    ∙ ap (λ t. desk_text xs ++ t) (append_assoc (entry_line e) (desk_text (drop (suc n) ys)) y) in
    fault.fault e rest (All-get_or IsItem ys n none fewer items) follows (append_cancel_left (desk_text xs) fault.behind (entry_line e ++ rest) begins)

one_fault : (bytes : Text) (a b : ℕ) → IsFaultAt bytes a → IsFaultAt bytes b → a ≡ b
one_fault bytes a b f g = elim (cases_lt (length f.before) (length g.before)) [
  | inl fewer ↦ absurd (no_fewer bytes a g.before g.behind f g.bytes_are g.items g.rise fewer)
  | inr enough ↦ elim (cases_lt (length g.before) (length f.before)) [
    | inl fewer ↦ absurd (no_fewer bytes b f.before f.behind g f.bytes_are f.items f.rise fewer)
    | inr same ↦ omega (arith, f.line_is, g.line_is)
  ]
]

-- a desk file has no fault
no_fault : (bytes : Text) (m : Joined) (line : ℕ) → bytes ≡ desk_file m → AreItems (entries m) → IsFaultAt bytes line → ⊥
no_fault bytes m line file items fault =
    let ys = entries m in
    let whole : bytes ≡ desk_text ys ++ [] = file ∙ sym (append-nil (desk_text ys)) in
    let lists : fault.before ++ items_in fault.behind ≡ ys = sym (items_in-append fault.before fault.behind fault.items) ∙ ap items_in (sym fault.bytes_are ∙ file) ∙ items_in-desk_text ys items in
    elim (cases_lt (length fault.before) (length ys)) [
      | inl fewer ↦ no_fewer bytes line ys [] fault whole items (sorted_entries m) fewer
      | inr enough ↦
          let sizes : length ys ≤ length fault.before = omega (arith, enough) in
          let same : ys ≡ fault.before = sym (take_all (length fault.before) ys sizes) ∙ ap (take (length fault.before)) (sym lists) ∙ take-append_seam fault.before (items_in fault.behind) in
          let nothing : desk_text fault.before ++ fault.behind ≡ desk_text fault.before ++ [] = sym fault.bytes_are ∙ whole ∙ ap (λ es. desk_text es ++ []) same in
          absurd (omega (arith, fault.goes_on, ap length (append_cancel_left (desk_text fault.before) fault.behind [] nothing)))
    ]

one_map : (a b : Joined) → AreItems (entries a) → AreItems (entries b) → desk_file a ≡ desk_file b → a ≡ b
one_map a b f g same =
    same_entries_map a b (sym (items_in-desk_text (entries a) f) ∙ ap items_in same ∙ items_in-desk_text (entries b) g)

pub reads_once : (bytes : Text) (a b : Result Joined ℕ) → Reads bytes a → Reads bytes b → a ≡ b
reads_once bytes (Ok a) (Ok b) f g = ap Ok (one_map a b f.1 g.1 (sym f.0 ∙ g.0))
reads_once bytes (Ok a) (Err b) f g = absurd (no_fault bytes a b f.0 f.1 g)
reads_once bytes (Err a) (Ok b) f g = absurd (no_fault bytes b a g.0 g.1 f)
reads_once bytes (Err a) (Err b) f g = ap Err (one_fault bytes a b f g)
