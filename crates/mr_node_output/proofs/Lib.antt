mod Endings
