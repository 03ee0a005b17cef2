-- The trial file, which is made out of a number.
use Rattle.std.specs.Prelude.{ℕ, ◌+◌, ◌*◌, ◌%◌, ◌^◌, ◌≤◌, List, [], ◌∷◌, ◌++◌, codes, decimal, flat_map, map}
use Rattle.std.specs.List.{join_with_byte}
use Rattle.house_base.specs.Text.{Text}
use Rattle.house_base.specs.declared.limits.TheConstants.{DOLLAR, FEWEST_CLUSTERS, MOST_APPLICANTS, MOST_CLUSTERS, MOST_POINTS, MOST_REVIEWS, MOST_SEATS}
use Rattle.peer_selection.specs.Counting.{numbers_below}
use Rattle.house_model.specs.Report.{line_of}
use Rattle.house_model.specs.Text.{Lines}
use Rattle.trial_file.specs.Stream.{seed_words}

-- how many applicants, clusters, reviews and seats a trial may have: at least one applicant, and what a call may have
pub record IsTrial (applicants clusters reviews seats : ℕ) : Type 0 where
  pub applicants_in_range : (1 ≤ applicants) × (applicants ≤ MOST_APPLICANTS)
  pub clusters_in_range : (FEWEST_CLUSTERS ≤ clusters) × (clusters ≤ MOST_CLUSTERS)
  pub reviews_in_range : (1 ≤ reviews) × (reviews ≤ MOST_REVIEWS)
  pub seats_in_range : (1 ≤ seats) × (seats ≤ MOST_SEATS)

-- the name of the applicant with a number, and the names of so many, whose numbers begin at 1
abbrev pub trial_name : ℕ → Text
trial_name number = codes "p" ++ decimal number

unfoldable pub trial_names : ℕ → List Text
trial_names count = map (λ i. trial_name (i + 1)) (numbers_below count)

-- The words of the lines. Applicants are told by their index, which is one less than their number.

abbrev pub call_row : ℕ → ℕ → ℕ → List Text
call_row clusters reviews seats = codes "call" ∷ decimal seats ∷ decimal clusters ∷ decimal reviews ∷ []

abbrev pub applicant_row : ℕ → List Text
applicant_row i = codes "applicant" ∷ trial_name (i + 1) ∷ []

-- the clusters take turns
abbrev pub place_row : ℕ → ℕ → List Text
place_row clusters i = codes "place" ∷ trial_name (i + 1) ∷ decimal (i % clusters + 1) ∷ []

abbrev pub review_row : Text → Text → ℕ → List Text
review_row reviewer proposal points = codes "review" ∷ reviewer ∷ proposal ∷ decimal points ∷ []

-- the reviews by an applicant, of those behind it, round all of them; the points are the next words of a stream
unfoldable pub reviews_by : (ℕ → ℕ) → ℕ → ℕ → ℕ → List (List Text)
reviews_by words applicants reviews reviewer =
    map (λ distance. review_row (trial_name (reviewer + 1)) (trial_name ((reviewer + 1 + distance) % applicants + 1))
    (words (reviewer * reviews + distance) % (MOST_POINTS + 1))) (numbers_below reviews)

-- the draw of two words, below a dollar, in cents, for each applicant
unfoldable pub draw_of_words : ℕ → ℕ → ℕ → ℕ
draw_of_words high low applicants = (high * 2 ^ 32 + low) % (applicants * DOLLAR)

-- the draw, from the two words of a stream behind so many
abbrev pub draw_row : (ℕ → ℕ) → ℕ → ℕ → List Text
draw_row words applicants taken =
    codes "draw" ∷ decimal (draw_of_words (words taken) (words (taken + 1)) applicants) ∷ []

-- the words of all lines, for the words of a stream
unfoldable pub trial_rows : (ℕ → ℕ) → ℕ → ℕ → ℕ → ℕ → List (List Text)
trial_rows words applicants clusters reviews seats =
    call_row clusters reviews seats ∷ []
    ++ map applicant_row (numbers_below applicants)
    ++ map (place_row clusters) (numbers_below applicants)
    ++ (codes "assign" ∷ []) ∷ []
    ++ flat_map (reviews_by words applicants reviews) (numbers_below applicants)
    ++ (codes "close" ∷ []) ∷ draw_row words applicants (applicants * reviews) ∷ []

-- the text of rows: one space between words, and each row on a line of its own
abbrev pub rows_text : List (List Text) → Text
rows_text rows = flat_map line_of rows

-- the trial file of a seed, and its lines
unfoldable pub made_file : ℕ → ℕ → ℕ → ℕ → ℕ → Text
made_file seed applicants clusters reviews seats = rows_text (trial_rows (seed_words seed) applicants clusters reviews seats)

unfoldable pub made_lines : ℕ → ℕ → ℕ → ℕ → ℕ → Lines
made_lines seed applicants clusters reviews seats =
    map (join_with_byte 32) (trial_rows (seed_words seed) applicants clusters reviews seats)
