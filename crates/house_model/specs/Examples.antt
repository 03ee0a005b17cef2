use Rattle.std.specs.Prelude.{ℕ, List, ◌++◌, codes}

-- A call of four applicants with a hand-made assignment, in which all reviewers are silent; the same as a file
-- with other line ends, comments and blank lines; and what is written for both.
abbrev pub four_before_the_draw : List ℕ
four_before_the_draw = codes "call 2 2 1\napplicant a\napplicant b\napplicant c\napplicant d\nplace a 1\nplace b 1\nplace c 2\nplace d 2\npair a c\npair b d\npair c a\npair d b\nassign\nclose\n"

abbrev pub four_applicants : List ℕ
four_applicants = four_before_the_draw ++ codes "draw 0\n"

abbrev pub four_applicants_spaced : List ℕ
four_applicants_spaced = codes "# a call\r\ncall 2 2 1\r\n\r\napplicant a\r\n applicant\tb\r\napplicant c\r\napplicant d\r\nplace a 1\r\nplace b 1\r\nplace c 2\r\nplace d 2\r\n \t\r\npair a c\r\npair b d\r\npair c a\r\npair d b\r\nassign\r\n#close\r\nclose\r\ndraw 0"

abbrev pub four_applicants_report : List ℕ
four_applicants_report = codes "call 2 2 1\napplicants 4\naside 0 0 0 0 0 0\ndraw 0/4000000\ncluster 1 cents 2000000 quota 4000000/4000000 seats 1 filled 1\ncluster 2 cents 2000000 quota 4000000/4000000 seats 1 filled 1\napplicant a cluster 1 rank 1 cents 1000000 chance 4000000/4000000 yes\napplicant b cluster 1 rank 2 cents 1000000 chance 0/4000000 no\napplicant c cluster 2 rank 1 cents 1000000 chance 4000000/4000000 yes\napplicant d cluster 2 rank 2 cents 1000000 chance 0/4000000 no\nempty 0\n"

-- a call in which one person has two applicants, and what is written for it
abbrev pub two_of_one_person : List ℕ
two_of_one_person = codes "call 2 2 1\napplicant a1 a\napplicant a2 a\napplicant b\napplicant c\nplace a 1\nplace b 2\nplace c 2\npair a b\npair a c\npair b a1\npair c a2\nassign\nclose\ndraw 0\n"

abbrev pub two_of_one_person_report : List ℕ
two_of_one_person_report = codes "call 2 2 1\napplicants 4 persons 3\naside 0 0 0 0 0 0\ndraw 0/3000000\ncluster 1 cents 2000000 quota 4000000/3000000 seats 2 filled 2\ncluster 2 cents 1000000 quota 2000000/3000000 seats 0 filled 0\napplicant a1 person a cluster 1 rank 1 cents 1000000 chance 3000000/3000000 yes\napplicant a2 person a cluster 1 rank 2 cents 1000000 chance 1000000/3000000 yes\napplicant b cluster 2 rank 1 cents 500000 chance 2000000/3000000 no\napplicant c cluster 2 rank 2 cents 500000 chance 0/3000000 no\nempty 0\n"

-- a call in which the second applicant of a person is registered after somebody else's, and what is written for it
abbrev pub two_of_one_person_apart : List ℕ
two_of_one_person_apart = codes "call 3 2 1\napplicant a1 a\napplicant b\napplicant a2 a\napplicant c\nplace c 2\nplace a 1\nplace b 2\npair a b\npair a c\npair b a1\npair c a2\nassign\nclose\ndraw 1000000\n"

abbrev pub two_of_one_person_apart_report : List ℕ
two_of_one_person_apart_report = codes "call 3 2 1\napplicants 4 persons 3\naside 0 0 0 0 0 0\ndraw 1000000/3000000\ncluster 1 cents 2000000 quota 6000000/3000000 seats 2 filled 2\ncluster 2 cents 1000000 quota 3000000/3000000 seats 1 filled 1\napplicant a1 person a cluster 1 rank 1 cents 1000000 chance 3000000/3000000 yes\napplicant b cluster 2 rank 1 cents 500000 chance 3000000/3000000 yes\napplicant a2 person a cluster 1 rank 2 cents 1000000 chance 3000000/3000000 yes\napplicant c cluster 2 rank 2 cents 500000 chance 0/3000000 no\nempty 0\n"

-- a call of five applicants with uneven clusters in which four write reviews, one of them twice, and what is
-- written for it
abbrev pub five_reviewed : List ℕ
five_reviewed = codes "call 4 3 2\napplicant a\napplicant b\napplicant c\napplicant d\napplicant e\nplace a 1\nplace b 2\nplace c 2\nplace d 3\nplace e 3\npair a b\npair a c\npair b d\npair b e\npair c d\npair c e\npair d a\npair d b\npair e a\npair e c\nassign\nreview b e 3\nreview b d 7\nreview c d 1\nreview b e 0\nreview d a 1\nreview e a 1\nclose\ndraw 0\n"

abbrev pub five_reviewed_report : List ℕ
five_reviewed_report = codes "call 4 3 2\napplicants 5\naside 0 0 0 0 0 0\ndraw 0/5000000\ncluster 1 cents 2000000 quota 8000000/5000000 seats 2 filled 1\ncluster 2 cents 1000000 quota 4000000/5000000 seats 1 filled 1\ncluster 3 cents 2000000 quota 8000000/5000000 seats 1 filled 1\napplicant a cluster 1 rank 1 cents 2000000 chance 5000000/5000000 yes\napplicant b cluster 2 rank 1 cents 500000 chance 4000000/5000000 yes\napplicant c cluster 2 rank 2 cents 500000 chance 0/5000000 no\napplicant d cluster 3 rank 1 cents 2000000 chance 5000000/5000000 yes\napplicant e cluster 3 rank 2 cents 0 chance 3000000/5000000 no\nempty 1\n"

-- the call of four applicants up to its assignment; and with review lines, of which seven are set aside
abbrev pub four_assigned : List ℕ
four_assigned = codes "call 2 2 1\napplicant a\napplicant b\napplicant c\napplicant d\nplace a 1\nplace b 1\nplace c 2\nplace d 2\npair a c\npair b d\npair c a\npair d b\nassign\n"

abbrev pub four_set_aside : List ℕ
four_set_aside = codes "call 2 2 1\napplicant a\napplicant b\napplicant c\napplicant d\nplace a 1\nplace b 1\nplace c 2\nplace d 2\npair a c\npair b d\npair c a\npair d b\nreview a c 5\nassign\nreview a c 0\nreview a b 5\nreview a zed 5\nreview a c 5 6\nreview a c 101\nreview a c 007\nclose\nreview b d 5\ndraw 0\n"

-- an opening in which a has two applicants, and b, who is in no cluster yet, has one
abbrev pub opening : List ℕ
opening = codes "call 1 3 1\napplicant a1 a\napplicant a2 a\napplicant b\nplace a 1\npair a b\n"

-- calls up to their assignments: of one applicant, who has nobody to review; of two, who review each other, without
-- pairs, with one of the two pairs and with both
abbrev pub one_assigned : List ℕ
one_assigned = codes "call 1 2 1\napplicant a\nplace a 1\nassign\n"

abbrev pub two_assigned : List ℕ
two_assigned = codes "call 1 2 1\napplicant a\napplicant b\nplace a 1\nplace b 2\nassign\n"

abbrev pub two_with_one_pair : List ℕ
two_with_one_pair = codes "call 1 2 1\napplicant a\napplicant b\nplace a 1\nplace b 2\npair a b\nassign\n"

abbrev pub two_with_both_pairs : List ℕ
two_with_both_pairs = codes "call 1 2 1\napplicant a\napplicant b\nplace a 1\nplace b 2\npair a b\npair b a\nassign\n"

-- openings of one applicant: with its place, with a seed for the clusters, and with a seal; a seal's line, as it is and
-- with capitals; and a closed call with a seal
abbrev pub placed : List ℕ
placed = codes "call 1 2 1\napplicant a\nplace a 1\n"

abbrev pub partitioned : List ℕ
partitioned = codes "call 1 2 1\napplicant a\npartition dice-4\n"

abbrev pub seal : List ℕ
seal = codes "seal 00000000000000000000000000000000000000000000000000000000000000ff"

abbrev pub capital_seal : List ℕ
capital_seal = codes "seal 00000000000000000000000000000000000000000000000000000000000000FF"

abbrev pub sealed : List ℕ
sealed = placed ++ seal ++ codes "\n"

abbrev pub sealed_and_closed : List ℕ
sealed_and_closed = sealed ++ codes "assign\nclose\n"
