-- Places as they are stored: by numbers, which tell their dates, and by threads.
use Rattle.std.proofs.Common.{◌≡◌, ℕ, zero, suc, ◌+◌, ◌-◌, ◌*◌, ◌/◌, ◌%◌, ◌^◌, ◌<◌, ◌≤◌, List, [], ◌∷◌, ◌++◌, length, get_or, set, take, replicate, Option, Some, None, refl, sym, ap, subst, ◌∙◌, inl, inr, arith, length-set}
use Rattle.std.specs.Prelude.{option_map, IsSome}
use Rattle.std.proofs.lemmas.Bool.{cases_lt, le-leb}
use Rattle.std.proofs.lemmas.Grind.{common_steps}
use Rattle.std.proofs.lemmas.List.{drop-set-add, set-get_or, get_or_default, get_or_past, get_or-drop, length-drop, length-replicate}
use Rattle.std.proofs.lemmas.Nat.{div-mul-add}
use Rattle.mcs_release.specs.declared.dated.Dated.{Dated}
use Rattle.mcs_release.specs.Release.{dated, earliest, next_date}
use Rattle.mcs_release.specs.stored.Least.{empty, leaves, least, IsLeast}
use Rattle.mcs_release.specs.stored.Places.{date_of, entered, in_place, key, places_of, AreEmptyFrom, AreOfPlaces, IsOfPlace, IsStored, IsTaken}
use Rattle.mcs_release.proofs.Earliest.{earliest-place}
use Rattle.mcs_release.proofs.Entered.{entered-next, entered-none}
use Rattle.mcs_release.proofs.Tree.{least-found, least-lower, least-le-empty, root-least}

-- the date and the place of a number
pub key-date : (date place : ℕ) → place < 2 ^ 21 → key date place / 2 ^ 21 ≡ date
key-date date place below = div-mul-add date (2 ^ 21) place below

pub key-place : (date place : ℕ) → place < 2 ^ 21 → key date place % 2 ^ 21 ≡ place
key-place date place below = omega arith

pub date_of-key : (date place : ℕ) → date ≤ 2 ^ 42 → place < 2 ^ 21 → date_of (key date place) ≡ Some date
date_of-key date place range below = rw (key-date date place below, le-leb date (2 ^ 42) range) refl

pub in_place-key : (date place thread : ℕ) → date ≤ 2 ^ 42 → place < 2 ^ 21 → in_place (key date place) thread ≡ Some (dated thread date)
in_place-key date place thread range below = ap (option_map (dated thread)) (date_of-key date place range below)

-- places, by their numbers and threads
pub places_of-length : (numbers threads : List ℕ) → length numbers ≡ length threads → length (places_of numbers threads) ≡ length numbers
places_of-length [] threads e = refl
places_of-length (number ∷ numbers) [] e = absurd (omega arith)
places_of-length (number ∷ numbers) (thread ∷ threads) e = ap (λ (n : ℕ). suc n) (places_of-length numbers threads (omega arith))

pub places_of-get : (numbers threads : List ℕ) (place : ℕ) → length numbers ≡ length threads →
    get_or (places_of numbers threads) place None ≡ in_place (get_or numbers place empty) (get_or threads place 0)
places_of-get [] threads place e = refl
places_of-get (number ∷ numbers) [] place e = absurd (omega arith)
places_of-get (number ∷ numbers) (thread ∷ threads) zero e = refl
places_of-get (number ∷ numbers) (thread ∷ threads) (suc place) e = places_of-get numbers threads place (omega arith)

pub places_of-put : (numbers threads : List ℕ) (place number thread : ℕ) →
    places_of (set numbers place number) (set threads place thread) ≡ set (places_of numbers threads) place (in_place number thread)
places_of-put [] threads place number thread = refl
places_of-put (n ∷ numbers) [] zero number thread = refl
places_of-put (n ∷ numbers) [] (suc place) number thread = refl
places_of-put (n ∷ numbers) (t ∷ threads) zero number thread = refl
places_of-put (n ∷ numbers) (t ∷ threads) (suc place) number thread =
    ap (λ (places : List (Option Dated)). in_place n t ∷ places) (places_of-put numbers threads place number thread)

pub places_of-clear : (numbers threads : List ℕ) (place : ℕ) → places_of (set numbers place empty) threads ≡ set (places_of numbers threads) place None
places_of-clear numbers threads place =
    ap (places_of (set numbers place empty)) (sym (set-get_or threads place 0)) ∙ places_of-put numbers threads place empty (get_or threads place 0)

-- numbers stay those of their places
pub AreOfPlaces-set : (numbers : List ℕ) (place number : ℕ) → AreOfPlaces numbers → IsOfPlace place number → AreOfPlaces (set numbers place number)
AreOfPlaces-set numbers place number all it i = grind (arith, common_steps, all i, get_or_past (set numbers place number) i empty)

-- a place with a number has its date
module _ (numbers threads : List ℕ) (same : length numbers ≡ length threads) (few : length numbers ≤ 2 ^ 21) (all : AreOfPlaces numbers) where
  pub place-empty : (place : ℕ) → get_or numbers place empty ≡ empty → get_or (places_of numbers threads) place None ≡ None
  place-empty place e = places_of-get numbers threads place same ∙ ap (λ (n : ℕ). in_place n (get_or threads place 0)) e

  -- a place that is not empty
  pub place-number : (place : ℕ) (x : Dated) → get_or (places_of numbers threads) place None ≡ Some x →
      (place < 2 ^ 21) × (get_or numbers place empty ≡ key x.date place)
  place-number place x e = elim (cases_lt place (length numbers)) [
    | inl below ↦ elim (all place) [
      | inl none ↦ (let no = sym (place-empty place none) ∙ e in cc)
      | inr found ↦
          let there : Some (dated (get_or threads place 0) found.0) ≡ Some x =
          sym (in_place-key found.0 place (get_or threads place 0) found.1 (omega arith))
          ∙ ap (λ (n : ℕ). in_place n (get_or threads place 0)) (sym found.2) ∙ sym (places_of-get numbers threads place same) ∙ e in
          let date : found.0 ≡ x.date = cc in
          (omega arith, found.2 ∙ ap (λ (date : ℕ). key date place) date)
    ]
    | inr past ↦ (let no = sym (place-empty place (get_or_past numbers place empty past)) ∙ e in cc)
  ]

  -- if the minimum is `empty`, all places are empty
  pub entered-least_none : least numbers ≡ empty → entered (places_of numbers threads) ≡ []
  entered-least_none e = entered-none (places_of numbers threads) (λ place. place-empty place (none place))
    where
      none : (place : ℕ) → get_or numbers place empty ≡ empty
      none place = grind (arith, all place, least-lower numbers place, get_or_past numbers place empty)

  -- else it is that of the earliest
  pub record IsLeastPlace : Type 0 where
    pub place : ℕ
    pub date : ℕ
    pub at : least numbers ≡ key date place
    pub within : place < length numbers
    pub range : date ≤ 2 ^ 42
    pub stood : get_or (places_of numbers threads) place None ≡ Some (dated (get_or threads place 0) date)
    pub is_earliest : earliest (entered (places_of numbers threads)) ≡ Some (dated (get_or threads place 0) date)

  pub least-place : least numbers < empty → IsLeastPlace
  least-place some =
      let found = least-found numbers some in
      elim (all found.0) [
        | inl none ↦ absurd (omega (arith, found.2))
        | inr is ↦
            let stood = places_of-get numbers threads found.0 same ∙ ap (λ (n : ℕ). in_place n (get_or threads found.0 0)) is.2
            ∙ in_place-key is.0 found.0 (get_or threads found.0 0) is.1 (omega (arith, found.1)) in
            record {
              place = found.0;
              date = is.0;
              at = sym found.2 ∙ is.2;
              within = found.1;
              range = is.1;
              stood = stood;
              is_earliest = earliest-place (places_of numbers threads) found.0 (dated (get_or threads found.0 0) is.0) stood (λ i y e.
                  let other = place-number i y e in
                  (omega (arith, least-lower numbers i, other.0, other.1, found.1, found.2, is.2), λ before. omega (arith, least-lower numbers i, other.0, other.1, found.1, found.2, is.2)));
            }
      ]

-- as they are stored
pub leaves-length : (inner : ℕ) (nodes threads : List ℕ) → length nodes ≡ 4 * inner + 4 → length threads ≡ 3 * inner + 1 → length (leaves inner nodes) ≡ length threads
leaves-length inner nodes threads size wide = omega (arith, length-drop (inner + 3) nodes)

module _ (inner : ℕ) (nodes threads : List ℕ) (stored : IsStored inner nodes threads) where
  pub same-length : length (leaves inner nodes) ≡ length threads
  same-length = leaves-length inner nodes threads stored.tree.size stored.wide

  pub few-leaves : length (leaves inner nodes) ≤ 2 ^ 21
  few-leaves = omega (arith, same-length, stored.wide, stored.few)

  pub count-stored : length (places_of (leaves inner nodes) threads) ≡ length threads
  count-stored = places_of-length (leaves inner nodes) threads same-length ∙ same-length

  module _ (root : ℕ) (read : root ≡ get_or nodes 3 root) (fits : root ≤ empty) where
    root-is : root ≡ least (leaves inner nodes)
    root-is =
        let there : root ≡ get_or nodes 3 empty = read ∙ get_or_default nodes 3 root empty (omega (arith, stored.tree.size)) in
        there ∙ root-least inner nodes stored.tree (omega arith)

    pub date-stored : next_date (entered (places_of (leaves inner nodes) threads)) ≡ date_of root
    date-stored = elim (cases_lt (least (leaves inner nodes)) empty) [
      | inl some ↦
          let first = least-place (leaves inner nodes) threads same-length few-leaves stored.numbered some in
          ap (option_map (λ (x : Dated). x.date)) first.is_earliest ∙ sym (date_of-key first.date first.place first.range (omega (arith, first.within, few-leaves)))
          ∙ sym (ap date_of (root-is ∙ first.at))
      | inr none ↦
          let it : least (leaves inner nodes) ≡ empty = omega (arith, least-le-empty (leaves inner nodes)) in
          ap next_date (entered-least_none (leaves inner nodes) threads same-length few-leaves stored.numbered it) ∙ sym (ap date_of (root-is ∙ it))
    ]

    module _ (places : List (Option Dated)) (are : places_of (leaves inner nodes) threads ≡ places) (some : IsSome (earliest (entered places))) where
      pub first-stored : IsLeastPlace (leaves inner nodes) threads same-length few-leaves stored.numbered
      first-stored = elim (cases_lt (least (leaves inner nodes)) empty) [
        | inl less ↦ least-place (leaves inner nodes) threads same-length few-leaves stored.numbered less
        | inr none ↦
            let it : least (leaves inner nodes) ≡ empty = omega (arith, least-le-empty (leaves inner nodes)) in
            let no : IsSome (earliest []) = subst (λ (xs : List Dated). IsSome (earliest xs)) (ap entered (sym are) ∙ entered-least_none (leaves inner nodes) threads same-length few-leaves stored.numbered it) some in
            cc
      ]

      pub first-place : root % 2 ^ 21 ≡ first-stored.place
      first-place =
          ap (λ (n : ℕ). n % 2 ^ 21) (root-is ∙ first-stored.at)
          ∙ key-place first-stored.date first-stored.place (omega (arith, first-stored.within, few-leaves))

      pub first-within : root % 2 ^ 21 < length threads
      first-within = omega (arith, first-place, first-stored.within, same-length)

      pub IsTaken-stored : (nodes' : List ℕ) (thread : ℕ) → leaves inner nodes' ≡ set (leaves inner nodes) (root % 2 ^ 21) empty →
          thread ≡ get_or threads (root % 2 ^ 21) thread →
          IsTaken places (places_of (leaves inner nodes') threads) thread
      IsTaken-stored nodes' thread cleared it = subst (λ (ps : List (Option Dated)). IsTaken ps (places_of (leaves inner nodes') threads) thread) are (record {
        place = first-stored.place;
        first = dated (get_or threads first-stored.place 0) first-stored.date;
        stood = first-stored.stood;
        is_earliest = first-stored.is_earliest;
        left = ap (λ (ns : List ℕ). places_of ns threads) (cleared ∙ ap (λ (k : ℕ). set (leaves inner nodes) k empty) first-place)
            ∙ places_of-clear (leaves inner nodes) threads first-stored.place;
        it = it ∙ get_or_default threads (root % 2 ^ 21) thread 0 first-within ∙ ap (λ (k : ℕ). get_or threads k 0) first-place;
      })

  pub IsStored-closed : (nodes' threads' : List ℕ) → IsLeast inner nodes' → AreOfPlaces (leaves inner nodes') → length threads' ≡ length threads →
      IsStored inner nodes' threads'
  IsStored-closed nodes' threads' tree numbered wide = record {
    tree = tree;
    numbered = numbered;
    wide = wide ∙ stored.wide;
    few = stored.few;
  }

  pub IsStored-clear : (nodes' : List ℕ) (place : ℕ) → IsLeast inner nodes' → leaves inner nodes' ≡ set (leaves inner nodes) place empty → IsStored inner nodes' threads
  IsStored-clear nodes' place tree cleared =
      IsStored-closed nodes' threads tree (subst AreOfPlaces (sym cleared) (AreOfPlaces-set (leaves inner nodes) place empty stored.numbered (inl refl))) refl

  module _ (place date thread : ℕ) (range : date ≤ 2 ^ 42) where
    pub IsStored-put : (nodes' : List ℕ) → IsLeast inner nodes' → leaves inner nodes' ≡ set (leaves inner nodes) place (key date place) →
        IsStored inner nodes' (set threads place thread)
    IsStored-put nodes' tree put =
        IsStored-closed nodes' (set threads place thread) tree
        (subst AreOfPlaces (sym put) (AreOfPlaces-set (leaves inner nodes) place (key date place) stored.numbered (inr (date, range, refl)))) (length-set threads place thread)

    module _ (places : List (Option Dated)) (are : places_of (leaves inner nodes) threads ≡ places) (within : place < length places) where
      pub put-within : place < length threads
      put-within = omega (arith, within, ap length are, count-stored)

      pub put-few : place < 2 ^ 21
      put-few = omega (arith, put-within, stored.wide, stored.few)

      pub put-stored : (nodes' : List ℕ) → leaves inner nodes' ≡ set (leaves inner nodes) place (key date place) →
          places_of (leaves inner nodes') (set threads place thread) ≡ set places place (Some (dated thread date))
      put-stored nodes' put =
          ap (λ (ns : List ℕ). places_of ns (set threads place thread)) put ∙ places_of-put (leaves inner nodes) threads place (key date place) thread
          ∙ ap (set (places_of (leaves inner nodes) threads) place) (in_place-key date place thread range put-few)
          ∙ ap (λ (ps : List (Option Dated)). set ps place (Some (dated thread date))) are

      pub put-stored-few : (nodes' : List ℕ) → leaves inner nodes' ≡ set (leaves inner nodes) place (key date place) →
          length (places_of (leaves inner nodes') (set threads place thread)) ≤ 2 ^ 21
      put-stored-few nodes' put = omega (
        arith,
        ap length (put-stored nodes' put),
        length-set places place (Some (dated thread date)),
        ap length are,
        count-stored,
        stored.wide,
        stored.few,
      )

      -- in an empty place it is lower
      pub put-lower : get_or places place None ≡ None → key date place ≤ get_or (leaves inner nodes) place empty
      put-lower none = by (get_or (leaves inner nodes) place empty) (stored.numbered place) (sym (places_of-get (leaves inner nodes) threads place same-length) ∙ ap (λ (ps : List (Option Dated)). get_or ps place None) are ∙ none)
        where
          by : (number : ℕ) → IsOfPlace place number → in_place number (get_or threads place 0) ≡ None → key date place ≤ number
          by number h e = elim h [
            | inl it ↦ omega (arith, it, put-few, range)
            | inr found ↦
                (let no = sym (in_place-key found.0 place (get_or threads place 0) found.1 put-few) ∙ sym (ap (λ (n : ℕ). in_place n (get_or threads place 0)) found.2) ∙ e in cc)
          ]

-- with all places empty
replicate-get : (n i : ℕ) → get_or (replicate n empty) i empty ≡ empty
replicate-get zero i = refl
replicate-get (suc n) zero = refl
replicate-get (suc n) (suc i) = replicate-get n i

module _ (inner : ℕ) (nodes threads : List ℕ) (is : nodes ≡ replicate (4 * inner + 4) empty) (wide : length threads ≡ 3 * inner + 1) (few : 3 * inner + 1 ≤ 2 ^ 21) where
  node-empty : (i : ℕ) → get_or nodes i empty ≡ empty
  node-empty i = ap (λ (ns : List ℕ). get_or ns i empty) is ∙ replicate-get (4 * inner + 4) i

  leaf-empty : (place : ℕ) → get_or (leaves inner nodes) place empty ≡ empty
  leaf-empty place = get_or-drop (inner + 3) nodes place empty ∙ node-empty (inner + 3 + place)

  pub IsStored-new : IsStored inner nodes threads
  IsStored-new = record {
    tree = record {
      size = ap length is ∙ length-replicate (4 * inner + 4) empty;
      each = λ node from below.
          omega (arith, node-empty node, node-empty (4 * node - 8), node-empty (4 * node - 7), node-empty (4 * node - 6), node-empty (4 * node - 5));
    };
    numbered = λ place. inl (leaf-empty place);
    wide = wide;
    few = few;
  }

  pub AreEmptyFrom-new : AreEmptyFrom 0 (places_of (leaves inner nodes) threads)
  AreEmptyFrom-new place from =
      place-empty (leaves inner nodes) threads (same-length inner nodes threads IsStored-new) (few-leaves inner nodes threads IsStored-new)
      (λ i. inl (leaf-empty i)) place (leaf-empty place)

-- what the number of a place tells
pub place-dated : (numbers threads : List ℕ) (place : ℕ) (date : Option ℕ) → length numbers ≡ length threads → place < length threads →
    date ≡ date_of (get_or numbers place 0) → get_or (places_of numbers threads) place None ≡ option_map (dated (get_or threads place 0)) date
place-dated numbers threads place date same below e =
    places_of-get numbers threads place same
    ∙ ap (λ (n : ℕ). in_place n (get_or threads place 0)) (get_or_default numbers place empty 0 (omega arith))
    ∙ ap (option_map (dated (get_or threads place 0))) (sym e)

module _ (inner : ℕ) (nodes threads : List ℕ) (stored : IsStored inner nodes threads) (places : List (Option Dated)) (are : places_of (leaves inner nodes) threads ≡ places)
    (place : ℕ) (within : place < length places) where
  pub get-within : place < length threads
  get-within = omega (arith, within, ap length are, count-stored inner nodes threads stored)

  pub get-stored : (number : ℕ) (date : Option ℕ) → number ≡ get_or nodes (inner + 3 + place) number → date ≡ date_of number →
      get_or places place None ≡ option_map (dated (get_or threads place 0)) date
  get-stored number date read e =
      ap (λ (ps : List (Option Dated)). get_or ps place None) (sym are)
      ∙ place-dated (leaves inner nodes) threads place date (same-length inner nodes threads stored) get-within (e ∙ ap date_of there)
    where
      there : number ≡ get_or (leaves inner nodes) place 0
      there =
          read ∙ get_or_default nodes (inner + 3 + place) number 0 (omega (arith, get-within, stored.wide, stored.tree.size))
          ∙ sym (get_or-drop (inner + 3) nodes place 0)

pub entered-dated : (numbers threads : List ℕ) (place : ℕ) (date : Option ℕ) → length numbers ≡ length threads → place < length threads →
    date ≡ date_of (get_or numbers place 0) →
    entered (take (place + 1) (places_of numbers threads)) ≡ entered (take place (places_of numbers threads)) ++ entered (option_map (dated (get_or threads place 0)) date ∷ [])
entered-dated numbers threads place date same below e =
    ap (λ (n : ℕ). entered (take n (places_of numbers threads))) next
    ∙ entered-next (places_of numbers threads) place (option_map (dated (get_or threads place 0)) date) (place-dated numbers threads place date same below e)
    (omega (arith, places_of-length numbers threads same))
  where
    next : place + 1 ≡ suc place
    next = omega arith

-- a thread moves to a place further in front
module _ (inner : ℕ) (nodes threads : List ℕ) (place front date thread : ℕ) (range : date ≤ 2 ^ 42) where
  leaves-moved : leaves inner (set (set nodes (inner + 3 + place) empty) (inner + 3 + front) (key date front))
      ≡ set (set (leaves inner nodes) place empty) front (key date front)
  leaves-moved =
      drop-set-add (inner + 3) (set nodes (inner + 3 + place) empty) front (key date front)
      ∙ ap (λ (ns : List ℕ). set ns front (key date front)) (drop-set-add (inner + 3) nodes place empty)

  pub places_of-moved : front < 2 ^ 21 →
      places_of (leaves inner (set (set nodes (inner + 3 + place) empty) (inner + 3 + front) (key date front))) (set threads front thread)
      ≡ set (set (places_of (leaves inner nodes) threads) place None) front (Some (dated thread date))
  places_of-moved few =
      ap (λ (ns : List ℕ). places_of ns (set threads front thread)) leaves-moved
      ∙ places_of-put (set (leaves inner nodes) place empty) threads front (key date front) thread
      ∙ ap (λ (places : List (Option Dated)). set places front (in_place (key date front) thread)) (places_of-clear (leaves inner nodes) threads place)
      ∙ ap (set (set (places_of (leaves inner nodes) threads) place None) front) (in_place-key date front thread range few)

  pub AreOfPlaces-moved : AreOfPlaces (leaves inner nodes) →
      AreOfPlaces (leaves inner (set (set nodes (inner + 3 + place) empty) (inner + 3 + front) (key date front)))
  AreOfPlaces-moved all =
      subst AreOfPlaces (sym leaves-moved) (AreOfPlaces-set (set (leaves inner nodes) place empty) front (key date front)
      (AreOfPlaces-set (leaves inner nodes) place empty all (inl refl)) (inr (date, range, refl)))
