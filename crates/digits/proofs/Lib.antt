mod Digit
