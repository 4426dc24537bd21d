-- Bytes up to the end of a text that was written into them.
use Rattle.std.proofs.Common.{◌≡◌, ℕ, suc, ◌+◌, ◌-◌, ◌/◌, ◌^◌, ◌<◌, ◌≤◌, List, [], ◌∷◌, ◌++◌, length, take, drop, set, get_or, get_or-take, drop-cons, refl, subst, ap, sym, ◌∙◌, length-append, arith, append_assoc}
use Rattle.std.proofs.Math.Seq.{set-append_seam, take-set-lt, take-append-add, take-append_seam, take-length}
use Rattle.std.proofs.lemmas.List.{drop-set-add, length-drop, set-append_right, take-append-le, take_more_set, length-set, length-take-le}
use Rattle.std.specs.Fmt.{decimal}
use Rattle.itoa.proofs.Decimal.{length_one, length_pair, length_two, length_four as length_fours}
use borrow.Rule.Slice.PartMut.{put_mid, post_of}

-- the first bytes of a block that was copied
pub take_part : (bytes block : List ℕ) (at k n : ℕ) → at ≤ length bytes → n ≤ length block →
    take (at + n) (put_mid at k bytes block) ≡ take at bytes ++ take n block
take_part bytes block at k n long few =
    let rest = post_of at k bytes in
    let m : length (take at bytes) ≡ at = length-take-le at bytes long in
    let first : take (length (take at bytes) + n) (take at bytes ++ (block ++ rest)) ≡ take at bytes ++ take n (block ++ rest) =
    take-append-add (take at bytes) (block ++ rest) n in
    ap (λ j. take (j + n) (take at bytes ++ (block ++ rest))) (sym m) ∙ first
    ∙ ap (λ zs. take at bytes ++ zs) (take-append-le n block rest few)

-- a space, followed by the first bytes of a block
pub take_block : (bytes block : List ℕ) (at k n : ℕ) → at + 1 ≤ length bytes → n ≤ length block →
    take (at + 1 + n) (put_mid (at + 1) k (set bytes at 32) block) ≡ take at bytes ++ 32 ∷ take n block
take_block bytes block at k n long few =
    take_part (set bytes at 32) block (at + 1) k n (omega (arith, length-set bytes at 32)) few
    ∙ ap (λ zs. zs ++ take n block) (take_more_set bytes at 32 (omega arith))
    ∙ append_assoc (take at bytes) (32 ∷ []) (take n block)

-- a space followed by a word
pub take_word : (bytes word part : List ℕ) (at k : ℕ) → at + 1 ≤ length bytes → part ≡ word →
    take (at + 1 + length word) (put_mid (at + 1) k (set bytes at 32) part) ≡ take at bytes ++ 32 ∷ word
take_word bytes word part at k long is =
    let all : take (length word) word ≡ word = take-length word in
    subst (λ p. take (at + 1 + length word) (put_mid (at + 1) k (set bytes at 32) p) ≡ take at bytes ++ 32 ∷ word) (sym is)
    (take_block bytes word at k (length word) long (omega arith) ∙ ap (λ w. take at bytes ++ 32 ∷ w) all)

-- a space and a word, in a block of spaces
pub take_short : (blank word : List ℕ) (k : ℕ) → take 1 blank ≡ 32 ∷ [] → 1 ≤ length blank →
    take (1 + length word) (put_mid 1 k blank word) ≡ 32 ∷ word
take_short blank word k first long =
    let all : take (length word) word ≡ word = take-length word in
    take_part blank word 1 k (length word) long (omega arith) ∙ ap (λ zs. zs ++ take (length word) word) first ∙ ap (λ w. 32 ∷ w) all

-- digits in a block of spaces, with the space before them
pub take_digits : (blank block digits rest : List ℕ) (start : ℕ) → start + 1 ≤ length block → get_or blank start 0 ≡ 32 →
    take (start + 1) block ≡ take (start + 1) blank → drop (start + 1) block ≡ digits ++ rest → take (suc (length digits)) (drop start block) ≡ 32 ∷ digits
take_digits blank block digits rest start within space before behind =
    let first : get_or block start 0 ≡ 32 =
    sym (get_or-take (start + 1) block start 0 (omega arith)) ∙ ap (λ xs. get_or xs start 0) before
    ∙ get_or-take (start + 1) blank start 0 (omega arith) ∙ space
    in
    let next : suc start ≡ start + 1 = omega arith in
    ap (take (suc (length digits))) (drop-cons block start 0 (omega arith)) ∙ ap (λ x. x ∷ take (length digits) (drop (suc start) block)) first
    ∙ ap (λ xs. 32 ∷ take (length digits) xs) (ap (λ i. drop i block) next ∙ behind) ∙ ap (λ xs. 32 ∷ xs) (take-append_seam digits rest)

-- the last two digits of a block are others
pub last_two : (block upper : List ℕ) (start p q a b : ℕ) → start ≤ 16 → 16 ≤ length block →
    take (16 - start) (drop start block) ≡ upper ++ p ∷ q ∷ [] → take (16 - start) (drop start (set (set block 14 a) 15 b)) ≡ upper ++ a ∷ b ∷ []
last_two block upper start p q a b within long e =
    let n = 16 - start in
    let many : length (take n (drop start block)) ≡ n = length-take-le n (drop start block) (omega (arith, length-drop start block)) in
    let all : length (take n (drop start block)) ≡ length (upper ++ p ∷ q ∷ []) = ap (λ (xs : List ℕ). length xs) e in
    let digits : n ≡ length upper + 2 = omega (arith, length-append upper (p ∷ q ∷ [])) in
    let k = length upper in
    let first : 14 ≡ start + k = omega arith in
    let second : 15 ≡ start + (k + 1) = omega arith in
    let dropped : drop start (set (set block 14 a) 15 b) ≡ set (set (drop start block) k a) (k + 1) b =
    ap (λ i. drop start (set (set block 14 a) i b)) second ∙ drop-set-add start (set block 14 a) (k + 1) b
    ∙ ap (λ i. set (drop start (set block i a)) (k + 1) b) first ∙ ap (λ xs. set xs (k + 1) b) (drop-set-add start block k a)
    in
    let taken : take n (set (set (drop start block) k a) (k + 1) b) ≡ set (set (take n (drop start block)) k a) (k + 1) b =
    take-set-lt n (set (drop start block) k a) (k + 1) b (omega arith) ∙ ap (λ xs. set xs (k + 1) b) (take-set-lt n (drop start block) k a (omega arith))
    in
    let next : k + 1 - k ≡ 1 = omega arith in
    let one : set (upper ++ p ∷ q ∷ []) k a ≡ upper ++ a ∷ q ∷ [] = set-append_seam upper p (q ∷ []) a in
    let two : set (upper ++ a ∷ q ∷ []) (k + 1) b ≡ upper ++ a ∷ b ∷ [] =
    set-append_right upper (a ∷ q ∷ []) k (k + 1) b refl (omega arith) ∙ ap (λ i. upper ++ set (a ∷ q ∷ []) i b) next
    in
    ap (λ xs. take n xs) dropped ∙ taken ∙ ap (λ xs. set (set xs k a) (k + 1) b) e ∙ ap (λ xs. set xs (k + 1) b) one ∙ two

pub length_three : (n : ℕ) → 100 ≤ n → n < 1000 → length (decimal n) ≡ 3
length_three n lo hi = omega (arith, length_pair n lo (omega arith), length_one (n / 100) (omega arith))

pub length_four : (n : ℕ) → 1000 ≤ n → n < 10000 → length (decimal n) ≡ 4
length_four n lo hi = omega (arith, length_pair n (omega arith) (omega arith), length_two (n / 100) (omega arith) (omega arith))

pub length_five : (n : ℕ) → 10000 ≤ n → n < 100000 → length (decimal n) ≡ 5
length_five n lo hi = omega (arith, length_fours n lo (omega arith), length_one (n / 10000) (omega arith))

pub length_six : (n : ℕ) → 100000 ≤ n → n < 1000000 → length (decimal n) ≡ 6
length_six n lo hi = omega (arith, length_fours n (omega arith) (omega arith), length_two (n / 10000) (omega arith) (omega arith))

pub length_seven : (n : ℕ) → 1000000 ≤ n → n < 10000000 → length (decimal n) ≡ 7
length_seven n lo hi = omega (arith, length_fours n (omega arith) (omega arith), length_three (n / 10000) (omega arith) (omega arith))

pub length_eight : (n : ℕ) → 10000000 ≤ n → n < 100000000 → length (decimal n) ≡ 8
length_eight n lo hi = omega (arith, length_fours n (omega arith) (omega arith), length_four (n / 10000) (omega arith) (omega arith))

pub length_more : (n : ℕ) → 100000000 ≤ n → n < 2 ^ 64 → length (decimal n) ≡ length (decimal (n / 100000000)) + 8
length_more n lo hi =
    let a : n / 10000 / 10000 ≡ n / 100000000 = omega arith in
    let long : length (decimal (n / 10000)) ≡ length (decimal (n / 10000 / 10000)) + 4 = length_fours (n / 10000) (omega arith) (omega arith) in
    omega (arith, length_fours n (omega arith) hi, subst (λ m. length (decimal (n / 10000)) ≡ length (decimal m) + 4) a long)
